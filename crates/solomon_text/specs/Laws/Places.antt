-- The laws of a number's digits, by places of the word. Assumes nothing.
use Rattle.std.specs.Prelude.{◌≡◌, ℕ, ◌+◌, ◌-◌, ◌*◌, ◌≤◌, ◌<◌, false, List, get_or, drop}
use Rattle.std.proofs.Math.Path.{refl}
use Rattle.std.proofs.Common.{sym, ap, ◌∙◌, inl, add-one}
use native.Mathlib.Omega.{arith}
use Rattle.std.proofs.Math.ListN.{length, drop_of_length-le}
use Rattle.std.proofs.Math.Seq.{drop-cons}
use Rattle.solomon_text.specs.Kept.{Kept}
use Rattle.solomon_text.specs.Numbers.{without_minus, all_digits, is_whole_number, after_digits, size_of}

module _ (word : List ℕ) (start : ℕ) (s : drop start word ≡ without_minus word) where
  pub no_digits : start ≡ length word → is_whole_number word ≡ false
  unfolding is_whole_number
  no_digits e =
      let out : length word ≤ start = omega arith in
      rw (← s, drop_of_length-le word out) refl

  pub whole_by_digits : start < length word → is_whole_number word ≡ all_digits (drop start word)
  unfolding is_whole_number
  whole_by_digits h = rw (← s, drop-cons word start 0 h) refl

-- ---- a walk along its digits
pub record Sizing (word : List ℕ) (i kept : ℕ) : Type 0 where
  pub size : ℕ
  pub left : size_of word ≡ after_digits size (drop i word)
  pub same : Kept size kept

pub size_begins : (word : List ℕ) (i : ℕ) → drop i word ≡ without_minus word → Sizing word i 0
unfolding size_of
size_begins word i e = record { size = 0; left = ap (after_digits 0) (sym e); same = inl refl }

pub size_goes_on : (word : List ℕ) (i kept more : ℕ) → i < length word → Sizing word i kept → ((size : ℕ) → Kept size kept → Kept (10 * size + (get_or word i 0 - 48)) more) → Sizing word (i + 1) more
unfolding after_digits
size_goes_on word i kept more h s f =
    record {
      size = 10 * s.size + (get_or word i 0 - 48);
      left = s.left ∙ rw (add-one, drop-cons word i 0 h) refl;
      same = f s.size s.same;
    }

pub size_ends : (word : List ℕ) (i kept : ℕ) → length word ≤ i → Sizing word i kept → Kept (size_of word) kept
unfolding after_digits
size_ends word i kept h s =
    let all : size_of word ≡ s.size = s.left ∙ rw (drop_of_length-le word h) refl in
    rw all s.same
