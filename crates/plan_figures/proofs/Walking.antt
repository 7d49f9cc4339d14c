-- The loop over the rounds: the figures of those that are walked. Assumes nothing.
use Rattle.std.proofs.Common.{◌≡◌, refl, ap, sym, ◌∙◌, arith}
use Rattle.std.proofs.lemmas.List.{map-append}
use Prim.Native.Nat.{ℕ, zero, suc, ◌+◌, ◌≤◌, ◌<◌}
use native.Mathlib.Nat.{add-zero, zero-add}
use native.Mathlib.Numerals.{add-one}
use mathlib.Core.List.{List, []}
use Rattle.std.specs.Prelude.{map}
use lib.ListN.{length, take, get_or, set, length-set}
use lib.Seq.{take-suc, take-suc-set, take_all}
use Rattle.constructive.specs.Members.{part}
use Rattle.constructive.specs.Outcome.{Round, rounds_in, start_in, round_at}
use Rattle.constructive.specs.Laws.Stored.{length_rounds}
use Rattle.plan_figures.specs.declared.RouteFigures.{RouteFigures}
use Rattle.plan_figures.specs.Walked.{route_figures}

-- ---- the k-th round, as it stands in the tables
abbrev standing : List ℕ → List ℕ → List ℕ → ℕ → Round
standing stops ends vehicles k = record { vehicle = get_or vehicles k 0; stops = part stops (start_in ends k) (get_or ends k 0) }

module _ (stops ends vehicles : List ℕ) where
  stands : (m start k j : ℕ) → start ≡ start_in ends k → j < m → round_at (rounds_in stops ends vehicles m start k) j ≡ standing stops ends vehicles (k + j)
  unfolding rounds_in
  stands zero start k j e h = absurd (omega arith)
  stands (suc m) start k zero e h = rw (e, add-zero k)
  stands (suc m) start k (suc j) e h = stands m (get_or ends k 0) (k + 1) j (rw add-one) (omega arith) ∙ ap (standing stops ends vehicles) (omega arith)

  abbrev rounds : ℕ → List Round
  rounds n = rounds_in stops ends vehicles n 0 0

  -- after k rounds
  pub record Walking (s : List ℕ) (n : ℕ) (figures : List RouteFigures) (k : ℕ) : Type 0 where
    pub long : length figures ≡ n
    pub walked : take k figures ≡ map (route_figures s) (take k (rounds n))

  module _ (s : List ℕ) (n : ℕ) (figures : List RouteFigures) where
    module _ (k : ℕ) (g : Walking s n figures k) where
      pub goes_on : (f : RouteFigures) → k < n → f ≡ route_figures s (standing stops ends vehicles k) → Walking s n (set figures k f) (k + 1)
      goes_on f h e =
          let l = length_rounds stops ends vehicles n 0 0 in
          let stood : get_or (rounds n) k (record { vehicle = 0; stops = [] }) ≡ standing stops ends vehicles k = stands n 0 0 k refl h ∙ rw zero-add in
          record {
            long = length-set figures k f ∙ g.long;
            walked = rw (add-one, take-suc-set figures k f (omega (arith, g.long)), take-suc (rounds n) k (record { vehicle = 0; stops = [] }) (omega (arith, l)), map-append, g.walked, stood, e) refl;
          }

      pub done : n ≤ k → figures ≡ map (route_figures s) (rounds n)
      done h =
          let l = length_rounds stops ends vehicles n 0 0 in
          sym (take_all k figures (omega (arith, g.long))) ∙ g.walked ∙ ap (map (route_figures s)) (take_all k (rounds n) (omega (arith, l)))
