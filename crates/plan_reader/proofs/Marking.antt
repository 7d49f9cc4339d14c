-- The loop that marks the rows met: a row's mark is how often it was met. Assumes nothing.
use mathlib.Core.Path.{◌≡◌, refl, sym, ap, ◌∙◌}
use Prim.Native.Nat.{ℕ, zero, suc, ◌+◌, ◌<◌}
use native.Mathlib.Numerals.{add-one}
use native.Mathlib.Omega.{arith}
use mathlib.Core.Bool.{Bool, true, false}
use mathlib.Core.List.{List, [], ◌∷◌}
use lib.Dec.{eqb}
use lib.ListN.{length, get_or, take, drop, set, replicate, length-replicate, length-set}
use lib.Seq.{split_at, take-suc, get_or-set_same, get_or-set_other}
use borrow.Author.Tests.{eq-eqb, eqb-true, eqb-false}
use Rattle.lists.specs.Count.{one, count}
use Rattle.lists.specs.Laws.Once.{count_append}
use Rattle.plan_reader.specs.Chains.{Single}

pub record Marking (rows : List ℕ) (met : List Bool) (i : ℕ) : Type 0 where
  pub long : length met ≡ 101
  pub marks : (r : ℕ) → one (get_or met r false) ≡ count r (take i rows)

unmarked : (n r : ℕ) → get_or (replicate n false) r false ≡ false
unmarked zero r = refl
unmarked (suc n) zero = refl
unmarked (suc n) (suc r) = unmarked n r

module _ (rows : List ℕ) where
  pub begins : Marking rows (replicate 101 false) 0
  unfolding count
  begins = record { long = length-replicate 101 false; marks = λ r. rw (unmarked 101 r) }

  module _ (met : List Bool) (i : ℕ) (g : Marking rows met i) where
    -- a row that is met again stands twice
    pub again : i < length rows → get_or met (get_or rows i 0) false ≡ true → Single rows → ⊥
    unfolding count
    again h e single =
        let row = get_or rows i 0 in
        let m : count row (take i rows) ≡ 1 = sym (g.marks row) ∙ ap one e in
        let o : one (eqb row row) ≡ 1 = rw (eq-eqb row row refl) in
        let c = ap (count row) (split_at rows i 0 h) ∙ count_append row (take i rows) (row ∷ drop (suc i) rows) in
        let l = single row in
        omega arith

    pub goes_on : (after : List Bool) → i < length rows → get_or rows i 0 < 101 → get_or met (get_or rows i 0) false ≡ false → after ≡ set met (get_or rows i 0) true → Marking rows after (i + 1)
    unfolding count
    goes_on after h l e w = record {
      long = rw w (length-set met (get_or rows i 0) true ∙ g.long);
      marks = λ r. rw (w, add-one i, take-suc rows i 0 h) (go r (eqb r (get_or rows i 0)) refl ∙ sym (count_append r (take i rows) (get_or rows i 0 ∷ [])));
    }
      where
        go : (r : ℕ) (b : Bool) → eqb r (get_or rows i 0) ≡ b → one (get_or (set met (get_or rows i 0) true) r false) ≡ count r (take i rows) + (one b + 0)
        go r true q =
            let k = eqb-true r (get_or rows i 0) q in
            let m : count r (take i rows) ≡ 0 = sym (g.marks r) ∙ ap one (ap (λ (x : ℕ). get_or met x false) k ∙ e) in
            let o : one (get_or (set met (get_or rows i 0) true) r false) ≡ 1 = ap one (ap (λ (x : ℕ). get_or (set met (get_or rows i 0) true) x false) k ∙ get_or-set_same met (get_or rows i 0) true false (omega (arith, g.long))) in
            omega arith
        go r false q =
            let m = g.marks r in
            let o : one (get_or (set met (get_or rows i 0) true) r false) ≡ one (get_or met r false) = ap one (get_or-set_other met (get_or rows i 0) r true false (eqb-false r (get_or rows i 0) q)) in
            omega arith
