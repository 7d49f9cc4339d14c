-- What holds of every element of a list. Assumes nothing.
use Rattle.std.specs.Prelude.{ℕ, zero, suc, ◌<◌, List, [], ◌∷◌, ◌++◌, length, get_or, take, drop}
use Rattle.std.proofs.Common.{suc-le-suc, le_of_suc-le-suc, not-suc-le-zero, zero-lt-suc}
use Rattle.lists.specs.Every.{Every}

module _ {A : Type 0} (P : A → Type 0) where
  pub every_of : (d : A) (xs : List A) → ((k : ℕ) → k < length xs → P (get_or xs k d)) → Every P xs
  every_of d [] f = tt
  every_of d (x ∷ xs) f = (f 0 (zero-lt-suc (length xs)), every_of d xs (λ k h. f (suc k) (suc-le-suc h)))

  pub every_at : (d : A) (xs : List A) (k : ℕ) → k < length xs → Every P xs → P (get_or xs k d)
  every_at d [] k h e = absurd (not-suc-le-zero h)
  every_at d (x ∷ xs) zero h e = e.0
  every_at d (x ∷ xs) (suc k) h e = every_at d xs k (le_of_suc-le-suc h) e.1

  pub every_append : (xs ys : List A) → Every P xs → Every P ys → Every P (xs ++ ys)
  every_append [] ys e f = f
  every_append (x ∷ xs) ys e f = (e.0, every_append xs ys e.1 f)

  pub every_take : (n : ℕ) (xs : List A) → Every P xs → Every P (take n xs)
  every_take zero xs e = tt
  every_take (suc n) [] e = tt
  every_take (suc n) (x ∷ xs) e = (e.0, every_take n xs e.1)

  pub every_drop : (n : ℕ) (xs : List A) → Every P xs → Every P (drop n xs)
  every_drop zero xs e = e
  every_drop (suc n) [] e = tt
  every_drop (suc n) (x ∷ xs) e = every_drop n xs e.1

module _ {A : Type 0} (P Q : A → Type 0) (f : (x : A) → P x → Q x) where
  pub every_map : (xs : List A) → Every P xs → Every Q xs
  every_map [] e = tt
  every_map (x ∷ xs) e = (f x e.0, every_map xs e.1)

-- two facts of each element
module _ {A : Type 0} (P Q R : A → Type 0) (f : (x : A) → P x → Q x → R x) where
  pub every_both : (xs : List A) → Every P xs → Every Q xs → Every R xs
  every_both [] e g = tt
  every_both (x ∷ xs) e g = (f x e.0 g.0, every_both xs e.1 g.1)
