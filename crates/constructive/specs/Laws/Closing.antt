-- Tables in which an outcome is laid down go on: stops set aside change their order, or the first of them become a round. Assumes nothing.
use Rattle.std.specs.Prelude.{◌≡◌, ℕ, ◌+◌, ◌≤◌, ◌<◌, List, [], ◌∷◌, ◌++◌, length, take, drop}
use Rattle.std.proofs.Math.Path.{refl, ap}
use Rattle.std.proofs.Common.{sym, ◌∙◌, arith, append_assoc, length-append}
use Rattle.wire.specs.Bytes.{write}
use Rattle.wire.specs.Laws.Bytes.{length_write}
use Rattle.wire.specs.Laws.Overwrite.{part_write, write_over}
use Rattle.constructive.specs.declared.tables.Filled.{Filled}
use Rattle.constructive.specs.Outcome.{Round, Outcome, chains}
use Rattle.constructive.specs.Stored.{ends_from, vehicles_from, routed_in, filled_by, Stored}
use Rattle.constructive.specs.Laws.Stored.{chains_aside, chains_append, length_chains, length_ends, length_vehicles}
use Rattle.constructive.specs.Laws.Entered.{one_counted, enters_one}

abbrev outcome : List Round → List ℕ → Outcome
outcome done aside = record { rounds = done; aside = aside }

module _ (stops₀ ends₀ vehicles₀ : List ℕ) (f₀ : Filled) (done : List Round) (aside stops ends vehicles : List ℕ) (laid : Stored stops₀ ends₀ vehicles₀ f₀ (outcome done aside) stops ends vehicles) where
  abbrev routed : List ℕ
  routed = chains done []

  long_routed : length routed ≡ routed_in done
  long_routed = length_chains done [] ∙ omega arith

  stopped : stops ≡ write stops₀ f₀.routed (routed ++ aside)
  stopped = laid.stopped ∙ ap (write stops₀ f₀.routed) (chains_aside done aside)

  -- ---- the stops set aside
  module _ (room : f₀.routed + routed_in done + length aside ≤ length stops₀) where
    fits : f₀.routed + length (routed ++ aside) ≤ length stops₀
    fits = omega (arith, length-append routed aside, long_routed)

    pub laid_stops : length stops ≡ length stops₀
    laid_stops = ap length stopped ∙ length_write stops₀ f₀.routed (routed ++ aside) fits

    -- they stand behind the rounds
    pub laid_aside : take (length aside) (drop (f₀.routed + routed_in done) stops) ≡ aside
    laid_aside =
        ap (λ (n : ℕ). take (length aside) (drop (f₀.routed + n) stops)) (sym long_routed)
        ∙ ap (λ (l : List ℕ). take (length aside) (drop (f₀.routed + length routed) l)) stopped
        ∙ part_write stops₀ f₀.routed routed aside fits

  pub laid_ends : f₀.rounds + length done ≤ length ends₀ → length ends ≡ length ends₀
  laid_ends h = ap length laid.ended ∙ length_write ends₀ f₀.rounds (ends_from f₀.routed done) (omega (arith, length_ends f₀.routed done))

  pub laid_vehicles : f₀.rounds + length done ≤ length vehicles₀ → length vehicles ≡ length vehicles₀
  laid_vehicles h = ap length laid.driven ∙ length_write vehicles₀ f₀.rounds (vehicles_from done) (omega (arith, length_vehicles done))

-- the last of those set aside in another order
module _ (stops₀ ends₀ vehicles₀ : List ℕ) (f₀ : Filled) (done : List Round) (xs ys zs stops ends vehicles stops' : List ℕ) (laid : Stored stops₀ ends₀ vehicles₀ f₀ (outcome done (xs ++ ys)) stops ends vehicles) where
  pub laid_reordered : f₀.routed + routed_in done + length xs + length ys ≤ length stops₀ → length zs ≡ length ys → stops' ≡ write stops (f₀.routed + routed_in done + length xs) zs → Stored stops₀ ends₀ vehicles₀ f₀ (outcome done (xs ++ zs)) stops' ends vehicles
  laid_reordered room e q =
      let front = chains done [] ++ xs in
      let n : f₀.routed + routed_in done + length xs ≡ f₀.routed + length front = omega (arith, length-append (chains done []) xs, length_chains done []) in
      let all : stops ≡ write stops₀ f₀.routed (front ++ ys) = laid.stopped ∙ ap (write stops₀ f₀.routed) (chains_aside done (xs ++ ys) ∙ sym (append_assoc (chains done []) xs ys)) in
      record {
        stopped =
            q
            ∙ ap (λ (m : ℕ). write stops m zs) n
            ∙ ap (λ (l : List ℕ). write l (f₀.routed + length front) zs) all
            ∙ write_over stops₀ f₀.routed front ys (omega (arith, n, length-append front ys)) zs e
            ∙ ap (write stops₀ f₀.routed) (append_assoc (chains done []) xs zs ∙ sym (chains_aside done (xs ++ zs)));
        ended = laid.ended;
        driven = laid.driven;
      }

-- the first of them a round
module _ (stops₀ ends₀ vehicles₀ : List ℕ) (f₀ : Filled) (done : List Round) (r : Round) (aside stops ends vehicles : List ℕ) (f : Filled) (laid : Stored stops₀ ends₀ vehicles₀ f₀ (outcome done (r.stops ++ aside)) stops ends vehicles) (count : f ≡ filled_by f₀ done)
    (end : ℕ) (e : end ≡ f.routed + length r.stops) where
  pub round_counted : record { rounds = f.rounds + 1; routed = end } ≡ filled_by f₀ (done ++ (r ∷ []))
  round_counted = one_counted f₀ done f r end count e

  pub round_laid : (ends' vehicles' : List ℕ) → f.rounds < length ends₀ → f.rounds < length vehicles₀ → ends' ≡ write ends f.rounds (end ∷ []) → vehicles' ≡ write vehicles f.rounds (r.vehicle ∷ [])
      → Stored stops₀ ends₀ vehicles₀ f₀ (outcome (done ++ (r ∷ [])) aside) stops ends' vehicles'
  unfolding chains
  round_laid ends' vehicles' h k p q =
      let one = enters_one ends₀ vehicles₀ f₀ done ends vehicles f (record { ended = laid.ended; driven = laid.driven; count = count }) r ends' vehicles' (record { rounds = f.rounds + 1; routed = end }) end h k e refl p q in
      record {
        stopped = laid.stopped ∙ ap (write stops₀ f₀.routed) (sym (chains_append done (r ∷ []) aside));
        ended = one.ended;
        driven = one.driven;
      }
