-- How many rounds the limiter leaves: all of them, as they stand, or as many as it may. Assumes nothing.
use Rattle.std.specs.Prelude.{◌≡◌, Bool, cond, List, [], ◌∷◌, leb, take, drop}
use Rattle.std.proofs.Math.Path.{refl, ap}
use Rattle.std.proofs.Common.{sym, ◌∙◌, add-one, length-append}
use Prim.Native.Nat.{ℕ, zero, suc, ◌+◌, ◌≤◌, ◌<◌}
use native.Mathlib.Omega.{arith}
use Rattle.std.proofs.Math.Bool.{true, false}
use Rattle.std.proofs.Math.Dec.{ltb}
use Rattle.std.proofs.Math.ListN.{length}
use Rattle.std.proofs.Math.Seq.{split_at}
use borrow.Author.Tests.{ltb-true, ltb-false, le-ltb, leb-true, leb-false}
use Rattle.constructive.specs.Outcome.{Round, Outcome, round_at}
use Rattle.fleet.specs.Limit.{victim_of, without_round, put_in, Refit, dropped, drop_round, limit_on, soft_in, limit_routes}
use Rattle.fleet.specs.Laws.Bounds.{victim_among}
use Rattle.fleet.specs.Laws.Steps.{refit_on_kept}

-- ---- one round dropped
put_length : (i k row : ℕ) (rs : List Round) → length (put_in i k row rs) ≡ length rs
unfolding put_in
put_length i k row [] = refl
put_length zero k row (r ∷ rs) = refl
put_length (suc i) k row (r ∷ rs) = ap suc (put_length i k row rs)

without_round_length : (rs : List Round) (i : ℕ) → i < length rs → suc (length (without_round i rs)) ≡ length rs
without_round_length rs i h =
    let a = length-append (take i rs) (round_at rs i ∷ drop (suc i) rs) in
    let b = length-append (take i rs) (drop (i + 1) rs) in
    let d : length (drop (suc i) rs) ≡ length (drop (i + 1) rs) = ap (λ (n : ℕ). length (drop n rs)) (sym (add-one i)) in
    omega (arith, a, b, d, ap length (split_at rs i (record { vehicle = 0; stops = [] }) h))

module _ (s : List ℕ) (soft : Bool) where
  drop_length : (o : Outcome) → 0 < length o.rounds → suc (length (drop_round s soft o).rounds) ≡ length o.rounds
  unfolding drop_round
  drop_length o h =
      let x = dropped s o.rounds in
      ap suc (refit_on_kept s soft (λ (y : Refit). length y.rounds ≡ length x.rounds) (λ y j i k l p e. put_length i k _ y.rounds ∙ e) (length x.pending) x refl)
      ∙ without_round_length o.rounds (victim_of s o.rounds).round (victim_among s o.rounds h).round

  -- ---- n rounds at most
  limit_on_exact : (greatest n : ℕ) (o : Outcome) → greatest ≤ length o.rounds → length o.rounds ≤ greatest + n → length (limit_on s soft greatest n o).rounds ≡ greatest
  unfolding limit_on
  limit_on_exact greatest zero o l h = omega arith
  limit_on_exact greatest (suc n) o l h = go (ltb greatest (length o.rounds)) refl (λ a b. limit_on_exact greatest n (drop_round s soft o) a b)
    where
      go : (b : Bool) → ltb greatest (length o.rounds) ≡ b
          → (greatest ≤ length (drop_round s soft o).rounds → length (drop_round s soft o).rounds ≤ greatest + n → length (limit_on s soft greatest n (drop_round s soft o)).rounds ≡ greatest)
          → length (cond b (limit_on s soft greatest n (drop_round s soft o)) o).rounds ≡ greatest
      go true e r =
          let t = ltb-true greatest (length o.rounds) e in
          let d = drop_length o (omega arith) in
          r (omega arith) (omega arith)
      go false e r = let t = ltb-false greatest (length o.rounds) e in omega arith

  limit_on_whole : (greatest n : ℕ) (o : Outcome) → length o.rounds ≤ greatest → limit_on s soft greatest n o ≡ o
  unfolding limit_on
  limit_on_whole greatest zero o h = refl
  limit_on_whole greatest (suc n) o h = rw (le-ltb greatest (length o.rounds) h)

-- ---- the limiter
module _ (s : List ℕ) (greatest : ℕ) (o : Outcome) where
  -- no round is dropped without need
  pub limit_exact : greatest ≤ length o.rounds → length (limit_routes s greatest o).rounds ≡ greatest
  unfolding limit_routes
  limit_exact h = limit_on_exact s (soft_in s o) greatest (length o.rounds) o h (omega arith)

  pub limit_whole : length o.rounds ≤ greatest → (limit_routes s greatest o).rounds ≡ o.rounds
  unfolding limit_routes
  limit_whole h = ap (λ (l : Outcome). l.rounds) (limit_on_whole s (soft_in s o) greatest (length o.rounds) o h)

  pub limit_few : length (limit_routes s greatest o).rounds ≤ greatest
  limit_few = go (leb greatest (length o.rounds)) refl
    where
      go : (b : Bool) → leb greatest (length o.rounds) ≡ b → length (limit_routes s greatest o).rounds ≤ greatest
      go true e = omega (arith, limit_exact (leb-true greatest (length o.rounds) e))
      go false e = let h = leb-false greatest (length o.rounds) e in omega (arith, ap length (limit_whole (omega arith)))

  pub limit_no_more : length (limit_routes s greatest o).rounds ≤ length o.rounds
  limit_no_more = go (leb greatest (length o.rounds)) refl
    where
      go : (b : Bool) → leb greatest (length o.rounds) ≡ b → length (limit_routes s greatest o).rounds ≤ length o.rounds
      go true e = let h = leb-true greatest (length o.rounds) e in omega (arith, limit_exact h)
      go false e = let h = leb-false greatest (length o.rounds) e in omega (arith, ap length (limit_whole (omega arith)))
