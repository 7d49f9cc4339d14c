-- The loop over a round of offers: a row stays, moves, or the rows end. Assumes nothing.
use mathlib.Core.Path.{◌≡◌, refl, sym, ap, ◌∙◌}
use Prim.Native.Nat.{ℕ, ◌+◌, ◌≤◌, ◌<◌}
use native.Mathlib.Numerals.{add-one}
use native.Mathlib.Omega.{arith}
use mathlib.Core.Bool.{Bool, true, false, not, ◌||◌}
use mathlib.Core.List.{List, [], ◌∷◌, ◌++◌, append_assoc, append-nil}
use lib.Dec.{eqb}
use lib.ListN.{length, get_or, take, drop, set, length-set, drop_of_length-le}
use lib.Seq.{take-suc, take-suc-set, take_all, drop-cons, drop-set-lt}
use borrow.Author.Tests.{eq-eqb, ne_eqb}
use Rattle.lists.specs.Count.{is_in}
use Rattle.multi_depot_offers.specs.ByDepot.{planned_at, moves_to, offered_from, after_offers, moved}

-- the rows so far, with those left; `any` says whether one has moved
pub record Moving (s at₀ at : List ℕ) (any : Bool) (row : ℕ) : Type 0 where
  pub long : length at ≡ length at₀
  pub same : take row at ++ offered_from s (planned_at s at₀).aside row (drop row at) ≡ after_offers s at₀
  pub told : (any || moved (drop row at) (offered_from s (planned_at s at₀).aside row (drop row at))) ≡ moved at₀ (after_offers s at₀)

pub begins : (s at : List ℕ) → Moving s at at false 0
unfolding after_offers
begins s at = record { long = refl; same = refl; told = refl }

or_true : (a : Bool) → (a || true) ≡ true
or_true true = refl
or_true false = refl

or_false : (a : Bool) → (a || false) ≡ a
or_false true = refl
or_false false = refl

module _ (s at₀ at : List ℕ) (any : Bool) (row : ℕ) (m : Moving s at₀ at any row) where
  module _ (h : row < length at) where
    abbrev next : ℕ
    next = moves_to s (is_in row (planned_at s at₀).aside) row (get_or at row 0)

    -- the row with its offer, and those after it
    rest : offered_from s (planned_at s at₀).aside row (drop row at) ≡ next ∷ offered_from s (planned_at s at₀).aside (row + 1) (drop (row + 1) at)
    unfolding offered_from
    rest = rw (drop-cons at row 0 h, add-one)

    flag : moved (drop row at) (offered_from s (planned_at s at₀).aside row (drop row at)) ≡ (not (eqb (get_or at row 0) next) || moved (drop (row + 1) at) (offered_from s (planned_at s at₀).aside (row + 1) (drop (row + 1) at)))
    unfolding moved
    flag = rw (rest, drop-cons at row 0 h, add-one)

    -- the rows up to this one, with those after it
    so_far : (front : List ℕ) → front ≡ take row at ++ (next ∷ []) → front ++ offered_from s (planned_at s at₀).aside (row + 1) (drop (row + 1) at) ≡ after_offers s at₀
    so_far front e =
        ap (λ (l : List ℕ). l ++ offered_from s (planned_at s at₀).aside (row + 1) (drop (row + 1) at)) e
        ∙ append_assoc (take row at) (next ∷ []) (offered_from s (planned_at s at₀).aside (row + 1) (drop (row + 1) at))
        ∙ ap (◌++◌ (take row at)) (sym rest)
        ∙ m.same

    pub stays : next ≡ get_or at row 0 → Moving s at₀ at any (row + 1)
    stays e = record {
      long = m.long;
      same = so_far (take (row + 1) at) (rw add-one (take-suc at row 0 h ∙ ap (λ (x : ℕ). take row at ++ (x ∷ [])) (sym e)));
      told = sym (ap (λ (b : Bool). any || b) (flag ∙ rw (eq-eqb (get_or at row 0) next (sym e)))) ∙ m.told;
    }

    pub moves : (next ≡ get_or at row 0 → ⊥) → Moving s at₀ (set at row next) true (row + 1)
    moves e =
        let d : drop (row + 1) (set at row next) ≡ drop (row + 1) at = drop-set-lt (row + 1) at row next (omega arith) in
        record {
          long = length-set at row next ∙ m.long;
          same = rw d (so_far (take (row + 1) (set at row next)) (rw add-one (take-suc-set at row next h)));
          told = sym (ap (λ (b : Bool). any || b) (flag ∙ rw (ne_eqb (get_or at row 0) next (λ q. e (sym q)))) ∙ or_true any) ∙ m.told;
        }

  module _ (h : length at ≤ row) where
    none : drop row at ≡ []
    none = drop_of_length-le at {i = row} h

    pub moved_to : at ≡ after_offers s at₀
    unfolding offered_from
    moved_to = sym (sym m.same ∙ ap (λ (l : List ℕ). take row at ++ offered_from s (planned_at s at₀).aside row l) none ∙ append-nil (take row at) ∙ take_all row at h)

    pub any_moved : any ≡ moved at₀ (after_offers s at₀)
    unfolding offered_from moved
    any_moved = sym (or_false any) ∙ sym (ap (λ (l : List ℕ). any || moved l (offered_from s (planned_at s at₀).aside row l)) none) ∙ m.told
