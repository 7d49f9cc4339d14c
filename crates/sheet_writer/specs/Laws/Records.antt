-- Records one after another, each as long as the others. Assumes nothing.
use Rattle.std.specs.Prelude.{◌≡◌, ℕ, suc, ◌+◌, ◌*◌, ◌<◌, take}
use Rattle.std.proofs.Math.Path.{refl, sym, ap, subst}
use Rattle.std.proofs.Common.{◌∙◌}
use Rattle.std.proofs.Math.Nat.{mul-suc}
use native.Mathlib.Omega.{arith}
use mathlib.Core.List.{List, [], ◌∷◌, ◌++◌, append_assoc, append-nil}
use Rattle.std.proofs.Math.ListN.{length, get_or, drop, length-append}
use Rattle.std.proofs.Math.Seq.{length-take-le, split_at}
use Rattle.sheet_writer.specs.Sheet.{records_bytes}
use Rattle.sheet_writer.specs.Laws.Stands.{Stands, stands}

module _ {A : Type 0} (f : A → List ℕ) where
  records_append : (xs ys : List A) → records_bytes f (xs ++ ys) ≡ records_bytes f xs ++ records_bytes f ys
  unfolding records_bytes
  records_append [] ys = refl
  records_append (x ∷ xs) ys = ap (◌++◌ (f x)) (records_append xs ys) ∙ sym (append_assoc (f x) (records_bytes f xs) (records_bytes f ys))

  pub records_more : (xs : List A) (x : A) → records_bytes f (xs ++ (x ∷ [])) ≡ records_bytes f xs ++ f x
  unfolding records_bytes
  records_more xs x = records_append xs (x ∷ []) ∙ ap (◌++◌ (records_bytes f xs)) (append-nil (f x))

  module _ (w : ℕ) (even : (x : A) → length (f x) ≡ w) where
    pub length_records : (xs : List A) → length (records_bytes f xs) ≡ w * length xs
    unfolding records_bytes
    length_records [] = omega arith
    length_records (x ∷ xs) = omega (arith, length-append (f x) (records_bytes f xs), even x, length_records xs, mul-suc w (length xs))

    -- record i of them
    pub stands_record : (front more : List ℕ) (at : ℕ) → length front ≡ at → (xs : List A) (i : ℕ) (d : A) → i < length xs → Stands (front ++ (records_bytes f xs ++ more)) (at + w * i) (f (get_or xs i d))
    unfolding records_bytes
    stands_record front more at e xs i d h =
        let x = get_or xs i d in
        let before = records_bytes f (take i xs) in
        let after = records_bytes f (drop (suc i) xs) in
        let split : records_bytes f xs ≡ before ++ (f x ++ after) = ap (records_bytes f) (split_at xs i d h) ∙ records_append (take i xs) (x ∷ drop (suc i) xs) in
        let long : length (front ++ before) ≡ at + w * i =
        length-append front before ∙ rw (e, length_records (take i xs), length-take-le i xs (omega arith)) refl in
        let whole : front ++ before ++ (f x ++ (after ++ more)) ≡ front ++ (records_bytes f xs ++ more) = rw split (simp append_assoc) in
        subst (λ (l : List ℕ). Stands l (at + w * i) (f x)) whole (stands (front ++ before) (f x) (after ++ more) (at + w * i) long)
