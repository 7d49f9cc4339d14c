-- The slots of the rows of a round, set one after another. Assumes nothing.
use mathlib.Core.Path.{◌≡◌, refl, ap, ◌∙◌}
use Prim.Native.Nat.{ℕ, ◌+◌, ◌<◌}
use native.Mathlib.Numerals.{add-one}
use native.Mathlib.Omega.{arith}
use mathlib.Core.Bool.{Bool, true, false, cond}
use mathlib.Core.List.{List, [], ◌∷◌}
use lib.Dec.{ltb, eqb}
use lib.ListN.{length, get_or, set, take, length-set}
use lib.Seq.{take-suc, get_or-set_same, get_or-set_other}
use borrow.Author.Tests.{lt-ltb, eqb-true, eqb-false}
use Rattle.lists.specs.Count.{one, count}
use Rattle.lists.specs.Laws.Once.{count_append}

abbrev pub labelled : List ℕ → List ℕ → ℕ → ℕ → ℕ
labelled slots route slot x = cond (ltb 0 (count x route)) slot (get_or slots x 0)

pub record Relabelling (slots₀ route : List ℕ) (slot : ℕ) (slots : List ℕ) (i : ℕ) : Type 0 where
  pub rows : (k : ℕ) → k < length route → get_or route k 0 < length slots₀
  pub long : length slots ≡ length slots₀
  pub known : (x : ℕ) → x < length slots₀ → get_or slots x 0 ≡ labelled slots₀ (take i route) slot x

pub begins : (slots route : List ℕ) (slot : ℕ) → ((k : ℕ) → k < length route → get_or route k 0 < length slots) → Relabelling slots route slot slots 0
unfolding count
begins slots route slot h = record { rows = h; long = refl; known = λ x l. refl }

module _ (slots₀ route : List ℕ) (slot : ℕ) (slots : List ℕ) (i : ℕ) (g : Relabelling slots₀ route slot slots i) where
  pub row_known : i < length route → get_or route i 0 < length slots
  row_known h = omega (arith, g.rows i h, g.long)

  count_more : i < length route → (x : ℕ) → count x (take (i + 1) route) ≡ count x (take i route) + one (eqb x (get_or route i 0))
  unfolding count
  count_more h x = ap (count x) (ap (λ (n : ℕ). take n route) (add-one i) ∙ take-suc route i 0 h) ∙ count_append x (take i route) (get_or route i 0 ∷ []) ∙ omega arith

  pub goes_on : i < length route → Relabelling slots₀ route slot (set slots (get_or route i 0) slot) (i + 1)
  goes_on h = record {
    rows = g.rows;
    long = length-set slots (get_or route i 0) slot ∙ g.long;
    known = λ x l. go x l (eqb x (get_or route i 0)) refl;
  }
    where
      go : (x : ℕ) → x < length slots₀ → (b : Bool) → eqb x (get_or route i 0) ≡ b → get_or (set slots (get_or route i 0) slot) x 0 ≡ labelled slots₀ (take (i + 1) route) slot x
      go x l true e =
          let some : 0 < count x (take (i + 1) route) = omega (arith, count_more h x, ap one e) in
          rw (lt-ltb 0 (count x (take (i + 1) route)) some, eqb-true x (get_or route i 0) e) (get_or-set_same slots (get_or route i 0) slot 0 (row_known h))
      go x l false e =
          let same : count x (take (i + 1) route) ≡ count x (take i route) = omega (arith, count_more h x, ap one e) in
          rw same (get_or-set_other slots (get_or route i 0) x slot 0 (eqb-false x (get_or route i 0) e) ∙ g.known x l)
