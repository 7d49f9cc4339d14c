-- The words of a line, one after another. Assumes nothing.
use Rattle.std.specs.Prelude.{◌≡◌, refl, ℕ, suc, ◌-◌, ◌≤◌, ◌<◌, true, false, not, List, [], ◌∷◌, ◌++◌, length, get_or, take, drop, ◌+◌}
use Rattle.std.proofs.Common.{sym, ap, ◌∙◌, ⊎_elim, eq-or-lt_of_le, arith, true≢false, append-nil, length-drop, drop_of_length-le, drop-cons, length-take-le, add-one}
use Rattle.std.proofs.Math.Seq.{take-nil}
use Rattle.std.proofs.lemmas.Bool.{not-true, not-false}
use Rattle.solomon_text.specs.Lines.{parts_of, parts_with, is_blank, is_filled, words_of}
use Rattle.solomon_text.specs.Laws.Parts.{Uncut, FirstPart, one_part, part_first, walked_and_left}

-- ---- a list of bytes
blank_skipped : (b : ℕ) (bs : List ℕ) → is_blank b ≡ true → words_of (b ∷ bs) ≡ words_of bs
unfolding words_of parts_with parts_of
blank_skipped b bs e = rw e refl

last_word : (word : List ℕ) → Uncut is_blank word → is_filled word ≡ true → words_of word ≡ word ∷ []
unfolding words_of parts_with
last_word word u f = rw (one_part is_blank word u, f) refl

word_first : (word : List ℕ) (b : ℕ) (rest : List ℕ) → Uncut is_blank word → is_filled word ≡ true → is_blank b ≡ true → words_of (word ++ b ∷ rest) ≡ word ∷ words_of (b ∷ rest)
unfolding words_of parts_with
word_first word b rest u f e = rw (blank_skipped b rest e, part_first is_blank word b rest u e, f) refl

filled : (bs : List ℕ) → 0 < length bs → is_filled bs ≡ true
filled [] h = absurd (omega arith)
filled (b ∷ bs) h = refl

-- ---- a walk along a line: at a word or at the line's end
pub record AtWord (line : List ℕ) (at : ℕ) : Type 0 where
  pub within : at ≤ length line
  pub starts : at < length line → is_blank (get_or line at 0) ≡ false

-- nothing but blanks from `at` up to there
pub record NextWord (line : List ℕ) (at next : ℕ) : Type 0 where
  pub from : at ≤ next
  pub same : words_of (drop at line) ≡ words_of (drop next line)
  pub word : AtWord line next

pub no_words_left : (line : List ℕ) (at : ℕ) → length line ≤ at → words_of (drop at line) ≡ []
unfolding words_of parts_with parts_of
no_words_left line at h = rw (drop_of_length-le line h) refl

pub blank_passed : (line : List ℕ) (i : ℕ) → i < length line → is_blank (get_or line i 0) ≡ true → words_of (drop i line) ≡ words_of (drop (i + 1) line)
blank_passed line i h e = rw (add-one, drop-cons line i 0 h) (blank_skipped (get_or line i 0) (drop (suc i) line) e)

blanks_skipped : (blanks rest : List ℕ) → Uncut (λ (b : ℕ). not (is_blank b)) blanks → words_of (blanks ++ rest) ≡ words_of rest
blanks_skipped [] rest u = refl
blanks_skipped (b ∷ blanks) rest u = blank_skipped b (blanks ++ rest) (not-false (is_blank b) u.0) ∙ blanks_skipped blanks rest u.1

-- from the first byte that is no blank
pub next_word : (line : List ℕ) (at next : ℕ) → FirstPart (λ (b : ℕ). not (is_blank b)) line at next → NextWord line at next
next_word line at next p =
    record {
      from = p.walked.from;
      same = ap words_of (walked_and_left line at next p.walked.from) ∙ blanks_skipped (take (next - at) (drop at line)) (drop next line) p.walked.uncut;
      word = record { within = p.walked.within; starts = λ h. not-true (is_blank (get_or line next 0)) (p.stops h) };
    }

module _ (line : List ℕ) (at end : ℕ) (s : AtWord line at) (p : FirstPart is_blank line at end) where
  module _ (h : at < length line) where
    pub word_longer : at < end
    word_longer = ⊎_elim (λ e. absurd (true≢false (sym (p.stops (rw (← e) h)) ∙ rw (← e) (s.starts h)))) (λ l. l) (eq-or-lt_of_le p.walked.from)

    word_filled : is_filled (take (end - at) (drop at line)) ≡ true
    word_filled =
        let w = p.walked.within in
        let l = word_longer in
        let part : end - at ≤ length (drop at line) = rw length-drop (omega arith) in
        filled (take (end - at) (drop at line)) (rw (length-take-le (end - at) (drop at line) part) (omega arith))

    pub words_from : words_of (drop at line) ≡ take (end - at) (drop at line) ∷ words_of (drop end line)
    words_from = ap words_of (walked_and_left line at end p.walked.from) ∙ ⊎_elim ends goes (eq-or-lt_of_le p.walked.within)
      where
        ends : end ≡ length line → words_of (take (end - at) (drop at line) ++ drop end line) ≡ take (end - at) (drop at line) ∷ words_of (drop end line)
        ends e =
            let out : length line ≤ end = omega arith in
            rw (no_words_left line end out, drop_of_length-le line out, append-nil) (last_word (take (end - at) (drop at line)) p.walked.uncut word_filled)

        goes : end < length line → words_of (take (end - at) (drop at line) ++ drop end line) ≡ take (end - at) (drop at line) ∷ words_of (drop end line)
        goes l = rw (drop-cons line end 0 l) (word_first (take (end - at) (drop at line)) (get_or line end 0) (drop (suc end) line) p.walked.uncut word_filled (p.stops l))

  pub word_here : take (end - at) (drop at line) ≡ get_or (words_of (drop at line)) 0 []
  word_here = ⊎_elim none (λ h. rw (words_from h) refl) (eq-or-lt_of_le s.within)
    where
      none : at ≡ length line → take (end - at) (drop at line) ≡ get_or (words_of (drop at line)) 0 []
      none e =
          let out : length line ≤ at = omega arith in
          rw (no_words_left line at out, drop_of_length-le line out) (take-nil (end - at))

-- ---- a line's first word and what follows it
pub record FirstWord (line word rest : List ℕ) : Type 0 where
  pub words : words_of line ≡ word ∷ words_of rest
  pub shorter : length rest < length line
