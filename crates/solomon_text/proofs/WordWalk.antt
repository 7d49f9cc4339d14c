-- The words of a line: the first one, how many are passed that are whole numbers, and the one counted n. Assumes nothing.
use mathlib.Core.Path.{◌≡◌, refl, sym, ap, ◌∙◌}
use Prim.Native.Nat.{ℕ, suc, ◌+◌, ◌-◌, ◌≤◌, ◌<◌, zero-le}
use native.Mathlib.Nat.{sub-zero, add-zero}
use native.Mathlib.Omega.{arith}
use mathlib.Core.Bool.{true, false, not}
use mathlib.Core.List.{List, [], ◌∷◌}
use lib.Dec.{eqb}
use lib.ListN.{length, get_or, take, drop, length-drop}
use lib.Seq.{get_or-drop}
use Rattle.solomon_text.specs.Lines.{is_blank, words_of}
use Rattle.solomon_text.specs.Numbers.{is_whole_number, all_whole_numbers, holds_numbers, word_at}
use Rattle.solomon_text.specs.Laws.Parts.{FirstPart}
use Rattle.solomon_text.specs.Laws.Words.{AtWord, NextWord, FirstWord, next_word, word_longer, words_from, no_words_left}

-- ---- the first one, after so many blanks
module _ (line from : List ℕ) (at : ℕ) (f : from ≡ drop at line) (p : FirstPart (λ (b : ℕ). not (is_blank b)) line 0 at) where
  next : NextWord line 0 at
  next = next_word line 0 at p

  same : words_of line ≡ words_of from
  same = next.same ∙ ap words_of (sym f)

  pub no_first_word : length from ≡ 0 → words_of line ≡ []
  no_first_word e = same ∙ no_words_left from 0 (omega arith)

  module _ (end : ℕ) (h : 0 < length from) (q : FirstPart is_blank from 0 end) where
    long : length from ≡ length line - at
    long = ap length f ∙ length-drop at line

    here : AtWord from 0
    here = record {
      within = zero-le;
      starts = λ l. ap (λ (bs : List ℕ). is_blank (get_or bs 0 0)) f ∙ ap is_blank (get_or-drop at line 0 0) ∙ ap (λ (n : ℕ). is_blank (get_or line n 0)) (add-zero at) ∙ next.word.starts (omega (arith, long));
    }

    pub word_first : FirstWord line (take end from) (drop end from)
    word_first = record {
      words = same ∙ words_from from 0 end here q h ∙ ap (λ (n : ℕ). take n from ∷ words_of (drop end from)) (sub-zero end);
      shorter = omega (arith, long, length-drop end from, word_longer from 0 end here q h);
    }

-- ---- how many are passed
pub record Counting (line rest : List ℕ) (count : ℕ) : Type 0 where
  pub few : count + length rest ≤ length line
  pub whole : all_whole_numbers (words_of line) ≡ all_whole_numbers (words_of rest)
  pub counted : length (words_of line) ≡ count + length (words_of rest)

pub counting_begins : (line : List ℕ) → Counting line line 0
counting_begins line = record { few = omega arith; whole = refl; counted = omega arith }

module _ (line rest word after : List ℕ) (count : ℕ) (c : Counting line rest count) (w : FirstWord rest word after) where
  pub counting_goes_on : is_whole_number word ≡ true → Counting line after (count + 1)
  unfolding all_whole_numbers
  counting_goes_on e = record {
    few = omega (arith, c.few, w.shorter);
    whole = c.whole ∙ rw (w.words, e) refl;
    counted = c.counted ∙ rw w.words (omega arith);
  }

  pub counting_fails : (n : ℕ) → is_whole_number word ≡ false → holds_numbers n line ≡ false
  unfolding holds_numbers all_whole_numbers
  counting_fails n e = rw (c.whole, w.words, e) refl

pub counting_ends : (line rest : List ℕ) (count : ℕ) → words_of rest ≡ [] → Counting line rest count → (n : ℕ) → eqb count n ≡ holds_numbers n line
unfolding holds_numbers all_whole_numbers
counting_ends line rest count h c n = rw (c.whole, c.counted, h, add-zero) refl

-- ---- which one is sought: the one counted n from 0 is the one counted n - i from here
abbrev pub Seeking : List ℕ → ℕ → List ℕ → ℕ → Type 0
Seeking line n rest i = word_at line n ≡ get_or (words_of rest) (n - i) []

pub seeking_begins : (line : List ℕ) (n : ℕ) → Seeking line n line 0
seeking_begins line n = rw sub-zero refl

pub seeking_goes_on : (line rest word after : List ℕ) (n i : ℕ) → i < n → Seeking line n rest i → FirstWord rest word after → Seeking line n after (i + 1)
seeking_goes_on line rest word after n i l s w =
    let left : n - i ≡ suc (n - (i + 1)) = omega arith in
    s ∙ rw (left, w.words) refl

pub seeking_in_vain : (line rest : List ℕ) (n i : ℕ) → Seeking line n rest i → words_of rest ≡ [] → [] ≡ word_at line n
seeking_in_vain line rest n i s e = sym (s ∙ rw e refl)

pub seeking_ends : (line rest word after : List ℕ) (n i : ℕ) → n ≤ i → Seeking line n rest i → FirstWord rest word after → word ≡ word_at line n
seeking_ends line rest word after n i h s w =
    let none : n - i ≡ 0 = omega arith in
    sym (s ∙ rw (none, w.words) refl)
