-- A test of all rows, said of them one after another. Assumes nothing.
use mathlib.Core.Path.{◌≡◌, refl, sym, ap, ◌∙◌}
use Prim.Native.Nat.{ℕ, ◌+◌, ◌-◌, ◌≤◌, ◌<◌}
use native.Mathlib.Omega.{arith}
use mathlib.Core.List.{List, [], ◌∷◌}
use lib.Ieee.{eq}
use lib.ListN.{length, take, drop, length-drop}
use lib.Seq.{drop-drop, get_or-drop}
use Rattle.std.proofs.lemmas.List.{take_rest}
use Rattle.sheet.specs.Fields.{rows_of}
use Rattle.evaluation.specs.Routed.{Routed}
use Rattle.std.specs.List.{list_all, enumerate_from}
use Rattle.sheet.specs.Values.{distance_of}
use Rattle.clarke_wright_savings.specs.Savings.{same_back, symmetric}

module _ (s : List ℕ) where
  pub same_over : (i : ℕ) (js : List ℕ) → list_all (λ (j : ℕ). eq (distance_of s i j) (distance_of s j i)) js ≡ same_back s i js
  unfolding same_back
  same_over i [] = refl
  same_over i (j ∷ js) = rw (same_over i js)

  -- the rows from the i-th on
  symmetric_from : (rows : List ℕ) (i : ℕ) (is : List ℕ) → drop i rows ≡ is → list_all (λ (p : ℕ × ℕ). same_back s p.1 (drop (p.0 + 1) rows)) (enumerate_from i is) ≡ symmetric s is
  unfolding symmetric
  symmetric_from rows i [] e = refl
  symmetric_from rows i (row ∷ is) e =
      let rest : drop (i + 1) rows ≡ is = sym (drop-drop 1 i rows) ∙ ap (drop 1) e in
      rw (rest, symmetric_from rows (i + 1) is rest)

  pub symmetric_over : (rows : List ℕ) → list_all (λ (p : ℕ × ℕ). same_back s p.1 (drop (p.0 + 1) rows)) (enumerate_from 0 rows) ≡ symmetric s rows
  symmetric_over rows = symmetric_from rows 0 rows refl

-- the rows behind one are a round from it too
pub behind : {s : List ℕ} {depot : ℕ} {rows : List ℕ} → Routed s depot rows → (row : ℕ) → row < rows_of s → (i : ℕ) → i ≤ length rows → Routed s row (take (length rows - i) (drop i rows))
behind {s} {depot} {rows} p row home i h =
    let short : length (drop i rows) ≡ length rows - i = length-drop i rows in
    rw take_rest (record { sheet = p.sheet; home = home; few = omega (arith, short, p.few); row = λ k l. rw (get_or-drop _ _ _ _) (p.row (i + k) (omega (arith, short))) })
