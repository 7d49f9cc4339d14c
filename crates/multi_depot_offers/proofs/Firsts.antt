-- The loop that gives each row its first depot: it goes on, or ends. Assumes nothing.
use mathlib.Core.Path.{◌≡◌, sym, ap, ◌∙◌}
use Prim.Native.Nat.{ℕ, suc, ◌+◌, ◌-◌, ◌≤◌, ◌<◌}
use native.Mathlib.Numerals.{add-one}
use native.Mathlib.Nat.{sub-zero}
use native.Mathlib.Omega.{arith}
use mathlib.Core.List.{List, [], ◌∷◌, ◌++◌, append_assoc, append-nil}
use lib.ListN.{length, take, set, length-set}
use lib.Seq.{take-suc-set, take_all}
use Rattle.sheet.specs.Fields.{rows_of}
use Rattle.sheet.specs.Depots.{depots_of}
use Rattle.multi_depot_offers.specs.ByDepot.{next_depot, first_from, first_depots}

-- the depots of the rows so far, with those of the rows left
pub record Firsts (s at : List ℕ) (row : ℕ) : Type 0 where
  pub long : length at ≡ rows_of s
  pub same : first_depots s ≡ take row at ++ first_from s (rows_of s - row) row

pub begins : (s at : List ℕ) → length at ≡ rows_of s → Firsts s at 0
unfolding first_depots
begins s at h = record { long = h; same = rw sub-zero }

module _ (s at : List ℕ) (row : ℕ) (f : Firsts s at row) where
  pub goes_on : row < rows_of s → Firsts s (set at row (next_depot s row (depots_of s))) (row + 1)
  unfolding first_from
  goes_on h =
      let x = next_depot s row (depots_of s) in
      let n : rows_of s - row ≡ suc (rows_of s - (row + 1)) = omega arith in
      let e : take (row + 1) (set at row x) ≡ take row at ++ (x ∷ []) = rw add-one (take-suc-set at row x (omega (arith, f.long))) in
      record {
        long = length-set at row x ∙ f.long;
        same = f.same ∙ ap (λ (k : ℕ). take row at ++ first_from s k row) n ∙ sym (ap (λ (l : List ℕ). l ++ first_from s (rows_of s - (row + 1)) (row + 1)) e ∙ append_assoc (take row at) (x ∷ []) (first_from s (rows_of s - (row + 1)) (row + 1)));
      }

  pub ends : rows_of s ≤ row → at ≡ first_depots s
  unfolding first_from
  ends h =
      let n : rows_of s - row ≡ 0 = omega arith in
      sym (f.same ∙ rw n (append-nil (take row at)) ∙ take_all row at (omega (arith, f.long)))
