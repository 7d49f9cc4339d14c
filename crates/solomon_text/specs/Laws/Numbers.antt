-- Whole numbers of any length, kept in 64 bits. Assumes nothing.
use Rattle.std.specs.Prelude.{◌≡◌, ℕ, zero, suc, ◌+◌, ◌-◌, ◌*◌, ◌^◌, ◌≤◌, ◌<◌, Bool, true, false, ◌&&◌, List, [], ◌∷◌, eqb, leb, ℤ, pos, negsuc, nat_abs, neg_ℤ, get_or, drop}
use Rattle.std.specs.List.{list_all}
use Rattle.std.proofs.Math.Path.{refl}
use Rattle.std.proofs.Common.{sym, ap, ◌∙◌, inl, inr, ⊎_elim, suc-ne-zero, add-one, true≢false, ne_eqb}
use native.Mathlib.Omega.{arith}
use Rattle.std.proofs.Math.ListN.{length, drop_of_length-le}
use Rattle.std.proofs.Math.Seq.{drop-cons}
use Rattle.std.proofs.lemmas.Bool.{lt-leb}
use Rattle.solomon_text.specs.Lines.{is_digit, is_filled}
use Rattle.solomon_text.specs.Kept.{Kept, KeptNumber}
use Rattle.solomon_text.specs.Numbers.{has_minus, without_minus, all_digits, is_whole_number, after_digits, size_of, with_sign, whole_number, equals, is_up_to}

module _ (size kept : ℕ) (k : Kept size kept) where
  pub digit_kept : (digit : ℕ) → kept < 10 ^ 18 → Kept (10 * size + digit) (10 * kept + digit)
  digit_kept digit h = ⊎_elim (λ e. inl (omega arith)) (λ l. absurd (omega arith)) k

  pub digit_too_large : (digit : ℕ) → 10 ^ 18 ≤ kept → Kept (10 * size + digit) (10 ^ 19)
  digit_too_large digit h = inr (⊎_elim (λ e. omega arith) (λ l. omega arith) k, omega arith)

  eqb_kept : (n : ℕ) → n < 10 ^ 19 → eqb kept n ≡ eqb size n
  eqb_kept n h = ⊎_elim (λ e. ap (λ (s : ℕ). eqb s n) e) (λ l. ne_eqb kept n (λ e. omega arith) ∙ sym (ne_eqb size n (λ e. omega arith))) k

  leb_kept : (n : ℕ) → n < 10 ^ 19 → leb kept n ≡ leb size n
  leb_kept n h = ⊎_elim (λ e. ap (λ (s : ℕ). leb s n) e) (λ l. lt-leb kept n (omega arith) ∙ sym (lt-leb size n (omega arith))) k

pub equals_of : (z : ℤ) (kept n : ℕ) → KeptNumber z false kept → n < 10 ^ 19 → eqb kept n ≡ equals n z
equals_of (pos m) kept n r h = eqb_kept m kept r.size n h
equals_of (negsuc m) kept n r h = absurd (true≢false (sym r.sign))

pub equals_not : (z : ℤ) (kept n : ℕ) → KeptNumber z true kept → false ≡ equals n z
equals_not (pos m) kept n r = absurd (true≢false r.sign)
equals_not (negsuc m) kept n r = refl

pub up_to_of : (z : ℤ) (kept most : ℕ) → KeptNumber z false kept → most < 10 ^ 19 → leb kept most ≡ is_up_to most z
up_to_of (pos m) kept most r h = leb_kept m kept r.size most h
up_to_of (negsuc m) kept most r h = absurd (true≢false (sym r.sign))

pub up_to_not : (z : ℤ) (kept most : ℕ) → KeptNumber z true kept → false ≡ is_up_to most z
up_to_not (pos m) kept most r = absurd (true≢false r.sign)
up_to_not (negsuc m) kept most r = refl

pub within_of : (z : ℤ) (negative : Bool) (kept most : ℕ) → KeptNumber z negative kept → most < 10 ^ 19 → leb kept most ≡ leb (nat_abs z) most
within_of z negative kept most r h = leb_kept (nat_abs z) kept r.size most h

pub size_exact : (z : ℤ) (negative : Bool) (kept : ℕ) → KeptNumber z negative kept → nat_abs z < 10 ^ 19 → kept ≡ nat_abs z
size_exact z negative kept r h = ⊎_elim (λ e. e) (λ l. absurd (omega arith)) r.size

pub value_of : (z : ℤ) (kept : ℕ) → KeptNumber z false kept → kept ≡ nat_abs z → pos kept ≡ z
value_of (pos m) kept r e = ap pos e
value_of (negsuc m) kept r e = absurd (true≢false (sym r.sign))

pub value_negative : (z : ℤ) (kept : ℕ) → KeptNumber z true kept → kept ≡ nat_abs z → neg_ℤ (pos kept) ≡ z
value_negative (pos m) kept r e = absurd (true≢false r.sign)
value_negative (negsuc m) kept r e = ap (λ (n : ℕ). neg_ℤ (pos n)) e

-- ---- a word
sign_of : (minus : Bool) (size kept : ℕ) → Kept size kept → (kept ≡ 0 → ⊥) → KeptNumber (with_sign minus size) minus kept
sign_of minus zero kept k h = absurd (⊎_elim (λ e. h e) (λ l. omega arith) k)
sign_of true (suc n) kept k h = record { sign = refl; size = k }
sign_of false (suc n) kept k h = record { sign = refl; size = k }

no_sign : (minus : Bool) (size kept : ℕ) → Kept size kept → kept ≡ 0 → KeptNumber (with_sign minus size) false kept
no_sign true zero kept k e = record { sign = refl; size = k }
no_sign false size kept k e = record { sign = refl; size = k }
no_sign true (suc n) kept k e = absurd (⊎_elim (λ i. omega arith) (λ l. omega arith) k)

module _ (word : List ℕ) (kept : ℕ) (k : Kept (size_of word) kept) where
  pub signed_number : (kept ≡ 0 → ⊥) → KeptNumber (whole_number word) (has_minus word) kept
  unfolding whole_number
  signed_number h = sign_of (has_minus word) (size_of word) kept k h

  pub zero_number : kept ≡ 0 → KeptNumber (whole_number word) false kept
  unfolding whole_number
  zero_number e = no_sign (has_minus word) (size_of word) kept k e

-- ---- where a word's digits start
pub no_minus : (word : List ℕ) → length word ≡ 0 → has_minus word ≡ false
no_minus [] e = refl
no_minus (b ∷ bs) e = absurd (suc-ne-zero (length bs) e)

pub minus_first : (word : List ℕ) → (length word ≡ 0 → ⊥) → eqb (get_or word 0 0) 45 ≡ has_minus word
minus_first [] h = absurd (h refl)
minus_first (b ∷ bs) h = refl

pub after_minus : (word : List ℕ) → has_minus word ≡ true → (1 ≤ length word) × (drop 1 word ≡ without_minus word)
after_minus [] e = absurd (true≢false (sym e))
after_minus (b ∷ bs) e = (omega arith, rw e refl)

pub without_minus_lem : (word : List ℕ) → has_minus word ≡ false → word ≡ without_minus word
without_minus_lem [] e = refl
without_minus_lem (b ∷ bs) e = rw e refl

-- ---- nothing but digits
pub all_digits_all : (bs : List ℕ) → list_all is_digit bs ≡ all_digits bs
unfolding all_digits
all_digits_all [] = refl
all_digits_all (b ∷ bs) = ap (λ (t : Bool). is_digit b && t) (all_digits_all bs)

module _ (word digits : List ℕ) (d : digits ≡ without_minus word) where
  pub no_digits : length digits ≡ 0 → false ≡ is_whole_number word
  unfolding is_whole_number
  no_digits e = rw (← d) (go digits e)
    where
      go : (bs : List ℕ) → length bs ≡ 0 → false ≡ (is_filled bs && all_digits bs)
      go [] e = refl
      go (b ∷ bs) e = absurd (suc-ne-zero (length bs) e)

  pub whole_by_digits : (length digits ≡ 0 → ⊥) → list_all is_digit digits ≡ is_whole_number word
  unfolding is_whole_number
  whole_by_digits h = rw (← d) (all_digits_all digits ∙ go digits h)
    where
      go : (bs : List ℕ) → (length bs ≡ 0 → ⊥) → all_digits bs ≡ (is_filled bs && all_digits bs)
      go [] h = absurd (h refl)
      go (b ∷ bs) h = refl

-- ---- a walk along its digits
pub record Sizing (digits : List ℕ) (i kept : ℕ) : Type 0 where
  pub size : ℕ
  pub left : after_digits 0 digits ≡ after_digits size (drop i digits)
  pub same : Kept size kept

pub size_begins : (digits : List ℕ) → Sizing digits 0 0
size_begins digits = record { size = 0; left = refl; same = inl refl }

pub size_goes_on : (digits : List ℕ) (i kept more : ℕ) → i < length digits → Sizing digits i kept → ((size : ℕ) → Kept size kept → Kept (10 * size + (get_or digits i 0 - 48)) more) → Sizing digits (i + 1) more
unfolding after_digits
size_goes_on digits i kept more h s f =
    record {
      size = 10 * s.size + (get_or digits i 0 - 48);
      left = s.left ∙ rw (add-one, drop-cons digits i 0 h) refl;
      same = f s.size s.same;
    }

pub size_ends : (word : List ℕ) (i kept : ℕ) → length (without_minus word) ≤ i → Sizing (without_minus word) i kept → Kept (size_of word) kept
unfolding size_of after_digits
size_ends word i kept h s =
    let all : size_of word ≡ s.size = s.left ∙ rw (drop_of_length-le (without_minus word) h) refl in
    rw all s.same

pub digits_go_on : (word : List ℕ) (i : ℕ) → i < length word → is_digit (get_or word i 0) ≡ true → all_digits (drop i word) ≡ all_digits (drop (i + 1) word)
unfolding all_digits
digits_go_on word i h e = rw (add-one, drop-cons word i 0 h, e) refl

pub no_digit_here : (word : List ℕ) (i : ℕ) → i < length word → is_digit (get_or word i 0) ≡ false → all_digits (drop i word) ≡ false
unfolding all_digits
no_digit_here word i h e = rw (drop-cons word i 0 h, e) refl

pub digits_end : (word : List ℕ) (i : ℕ) → length word ≤ i → all_digits (drop i word) ≡ true
unfolding all_digits
digits_end word i h = rw (drop_of_length-le word h) refl
