-- Rounds entered one by one in the tables of ends and vehicles, behind those that they hold already. Assumes nothing.
use Rattle.std.specs.Prelude.{◌≡◌, ℕ, ◌+◌, ◌≤◌, ◌<◌, List, [], ◌∷◌, ◌++◌}
use Rattle.std.proofs.Math.Path.{sym, ap}
use Rattle.std.proofs.Common.{◌∙◌, add-zero, arith, length-append}
use Rattle.std.proofs.Math.ListN.{length}
use Rattle.wire.specs.Bytes.{write}
use Rattle.wire.specs.Laws.Bytes.{length_write, write_write}
use Rattle.wire.specs.Laws.Overwrite.{write_same}
use Rattle.constructive.specs.declared.tables.Filled.{Filled}
use Rattle.constructive.specs.Outcome.{Round}
use Rattle.constructive.specs.Stored.{ends_from, vehicles_from, routed_in, filled_by}
use Rattle.constructive.specs.Laws.Stored.{length_ends, length_vehicles, routed_append, ends_append, vehicles_append}
use Rattle.constructive.specs.Entered.{Entered}

pub enters_none : (ends vehicles : List ℕ) (f : Filled) → f.rounds ≤ length ends → f.rounds ≤ length vehicles → Entered ends vehicles f [] ends vehicles f
unfolding ends_from vehicles_from routed_in
enters_none ends vehicles f h l = record {
  ended = sym (write_same ends f.rounds 0 (omega arith));
  driven = sym (write_same vehicles f.rounds 0 (omega arith));
  count = rw (add-zero f.rounds, add-zero f.routed);
}

-- a table with an entry more
entry : (t₀ t u xs : List ℕ) (x n at : ℕ) → t ≡ write t₀ n xs → at ≡ n + length xs → at < length t₀ → u ≡ write t at (x ∷ []) → u ≡ write t₀ n (xs ++ (x ∷ []))
entry t₀ t u xs x n at e m l q = q ∙ ap (λ (k : ℕ). write t k (x ∷ [])) m ∙ ap (λ (y : List ℕ). write y (n + length xs) (x ∷ [])) e ∙ write_write t₀ n xs (omega arith) (x ∷ []) (omega arith)

filled : {a b c d : ℕ} → a ≡ c → b ≡ d → ◌≡◌ {A = Filled} (record { rounds = a; routed = b }) (record { rounds = c; routed = d })
filled e f = rw (e, f)

-- how far the tables are filled with a round more
pub one_counted : (f₀ : Filled) (done : List Round) (f : Filled) (r : Round) (end : ℕ) → f ≡ filled_by f₀ done → end ≡ f.routed + length r.stops → record { rounds = f.rounds + 1; routed = end } ≡ filled_by f₀ (done ++ (r ∷ []))
unfolding routed_in
one_counted f₀ done f r end count e =
    let rounds = ap (λ (x : Filled). x.rounds) count in
    let routed = ap (λ (x : Filled). x.routed) count in
    filled (omega (arith, rounds, length-append done (r ∷ []))) (omega (arith, e, routed, routed_append done (r ∷ [])))

module _ (ends₀ vehicles₀ : List ℕ) (f₀ : Filled) (done : List Round) (ends vehicles : List ℕ) (f : Filled) (g : Entered ends₀ vehicles₀ f₀ done ends vehicles f) where
  pub rounds_at_lem : f.rounds ≡ f₀.rounds + length done
  rounds_at_lem = ap (λ (x : Filled). x.rounds) g.count

  pub routed_at : f.routed ≡ f₀.routed + routed_in done
  routed_at = ap (λ (x : Filled). x.routed) g.count

  pub ends_long : f.rounds ≤ length ends₀ → length ends ≡ length ends₀
  ends_long h = ap length g.ended ∙ length_write ends₀ f₀.rounds (ends_from f₀.routed done) (omega (arith, length_ends f₀.routed done, rounds_at_lem))

  pub vehicles_long : f.rounds ≤ length vehicles₀ → length vehicles ≡ length vehicles₀
  vehicles_long h = ap length g.driven ∙ length_write vehicles₀ f₀.rounds (vehicles_from done) (omega (arith, length_vehicles done, rounds_at_lem))

  -- as `close_round` enters it
  pub enters_one : (r : Round) (ends' vehicles' : List ℕ) (f' : Filled) (end : ℕ) → f.rounds < length ends₀ → f.rounds < length vehicles₀ → end ≡ f.routed + length r.stops
      → f' ≡ record { rounds = f.rounds + 1; routed = end } → ends' ≡ write ends f.rounds (end ∷ []) → vehicles' ≡ write vehicles f.rounds (r.vehicle ∷ [])
      → Entered ends₀ vehicles₀ f₀ (done ++ (r ∷ [])) ends' vehicles' f'
  unfolding ends_from vehicles_from
  enters_one r ends' vehicles' f' end h l e u p q =
      let at : end ≡ f₀.routed + routed_in done + length r.stops = omega (arith, e, routed_at) in
      record {
        ended =
            entry ends₀ ends ends' (ends_from f₀.routed done) end f₀.rounds f.rounds g.ended (omega (arith, rounds_at_lem, length_ends f₀.routed done)) h p
            ∙ ap (write ends₀ f₀.rounds) (ap (λ (n : ℕ). ends_from f₀.routed done ++ (n ∷ [])) at ∙ sym (ends_append f₀.routed done (r ∷ [])));
        driven =
            entry vehicles₀ vehicles vehicles' (vehicles_from done) r.vehicle f₀.rounds f.rounds g.driven (omega (arith, rounds_at_lem, length_vehicles done)) l q
            ∙ ap (write vehicles₀ f₀.rounds) (sym (vehicles_append done (r ∷ [])));
        count = u ∙ one_counted f₀ done f r end g.count e;
      }
