-- A step over a list, from a state on, is mathlib's `foldl`; that over two lists joined it is the step over the one and then the other is its
-- `foldl-append`. Here is what else walks, records and their loops cite of it. Assumes nothing.
use Rattle.std.specs.Prelude.{◌≡◌, ℕ, ◌+◌, ◌≤◌, ◌<◌, length, drop, get_or}
use Rattle.std.proofs.Common.{ap, add-one, drop_of_length-le, drop-cons}
use mathlib.Core.List.{List, [], ◌∷◌, ◌++◌, foldl, foldl-append}

module _ {S A : Type 0} (step : S → A → S) where
  -- a fold over a list with one element more
  pub fold_more : (x : S) (l : List A) (a : A) → foldl step x (l ++ (a ∷ [])) ≡ step (foldl step x l) a
  fold_more x l a = foldl-append step x l (a ∷ [])

  -- what every step keeps
  pub fold_keeps : (P : S → Type 0) → ((x : S) (a : A) → P x → P (step x a)) → (x : S) (l : List A) → P x → P (foldl step x l)
  fold_keeps P f x [] h = h
  fold_keeps P f x (a ∷ l) h = fold_keeps P f (step x a) l (f x a h)

  -- ---- a loop over the list: one turn, and its end
  pub fold_turn : (x : S) (l : List A) (i : ℕ) (d : A) → i < length l → foldl step x (drop i l) ≡ foldl step (step x (get_or l i d)) (drop (i + 1) l)
  fold_turn x l i d h = rw (add-one, drop-cons l i d)

  pub fold_done : (x : S) (l : List A) (i : ℕ) → length l ≤ i → foldl step x (drop i l) ≡ x
  fold_done x l i h = ap (foldl step x) (drop_of_length-le l h)
