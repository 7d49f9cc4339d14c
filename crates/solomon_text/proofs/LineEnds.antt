-- Where a line ends and the next one starts, from where its LF or the text's end stands. Assumes nothing.
use mathlib.Core.Path.{◌≡◌, refl, sym, ap, ◌∙◌}
use Prim.Native.Nat.{ℕ, ◌+◌, ◌-◌, ◌≤◌, ◌<◌}
use native.Mathlib.Nat.{suc-ne-zero}
use native.Mathlib.Numerals.{add-one}
use native.Mathlib.Omega.{arith}
use mathlib.Core.List.{List, [], ◌∷◌, ◌++◌, append-nil}
use lib.ListN.{length, get_or, take, drop, drop_of_length-le}
use lib.Seq.{drop-cons}
use borrow.Author.Tests.{eqb-true, ne_eqb}
use Rattle.solomon_text.specs.Lines.{parts_of, is_feed, without_returns, has_digit, lines_of, first_or, after_first, first_line, parts_with, digit_lines, number_lines}
use Rattle.solomon_text.specs.Laws.Parts.{FirstPart, walked_and_left, take_one_more}
use Rattle.solomon_text.specs.Laws.Lines.{without_last_return, return_gone, no_return, line_fed, last_line, no_digit_line}

module _ (text : List ℕ) (at end : ℕ) (p : FirstPart is_feed text at end) where
  split : drop at text ≡ take (end - at) (drop at text) ++ drop end text
  split = walked_and_left text at end p.walked.from

  last : end ≡ length text → lines_of (drop at text) ≡ take (end - at) (drop at text) ∷ []
  last e =
      let out : length text ≤ end = omega arith in
      ap lines_of (split ∙ ap (λ (r : List ℕ). take (end - at) (drop at text) ++ r) (drop_of_length-le text out) ∙ append-nil (take (end - at) (drop at text)))
      ∙ last_line (take (end - at) (drop at text)) p.walked.uncut

  module _ (h : end < length text) where
    fed : lines_of (drop at text) ≡ without_last_return (take (end - at) (drop at text)) ∷ lines_of (drop (end + 1) text)
    fed =
        let left : drop end text ≡ 10 ∷ drop (end + 1) text = rw (add-one, ← eqb-true (get_or text end 0) 10 (p.stops h)) (drop-cons text end 0 h) in
        ap lines_of (split ∙ ap (λ (r : List ℕ). take (end - at) (drop at text) ++ r) left)
        ∙ line_fed (take (end - at) (drop at text)) (drop (end + 1) text) p.walked.uncut

    first : without_last_return (take (end - at) (drop at text)) ≡ first_line (drop at text)
    unfolding first_line
    first = sym (ap first_or fed)

    pub line_empty : end ≡ at → take (end - at) (drop at text) ≡ first_line (drop at text)
    unfolding without_last_return
    line_empty e =
        let none : end - at ≡ 0 = omega arith in
        rw (← first, none) refl

    module _ (f : at < end) where
      -- the line's last byte
      ending : take (end - at) (drop at text) ≡ take (end - 1 - at) (drop at text) ++ (get_or text (end - 1) 0 ∷ [])
      ending =
          let back : end ≡ end - 1 + 1 = omega arith in
          ap (λ (n : ℕ). take (n - at) (drop at text)) back ∙ take_one_more text at (end - 1) (omega arith) (omega arith)

      pub line_returned : get_or text (end - 1) 0 ≡ 13 → take (end - 1 - at) (drop at text) ≡ first_line (drop at text)
      line_returned e = rw (← first, ending, e) (sym (return_gone (take (end - 1 - at) (drop at text))))

      pub line_fed_only : (get_or text (end - 1) 0 ≡ 13 → ⊥) → take (end - at) (drop at text) ≡ first_line (drop at text)
      line_fed_only e = rw (← first, ending) (sym (no_return (take (end - 1 - at) (drop at text)) (get_or text (end - 1) 0) (ne_eqb (get_or text (end - 1) 0) 13 e)))

    pub lines_after : digit_lines (after_first (lines_of (drop at text))) ≡ digit_lines (lines_of (drop (end + 1) text))
    lines_after = rw fed refl

  pub line_last : end ≡ length text → take (end - at) (drop at text) ≡ first_line (drop at text)
  unfolding first_line
  line_last e = sym (ap first_or (last e))

  pub no_line_after : end ≡ length text → digit_lines (after_first (lines_of (drop at text))) ≡ digit_lines (lines_of (drop end text))
  unfolding digit_lines parts_with
  no_line_after e =
      let out : length text ≤ end = omega arith in
      rw (last e, drop_of_length-le text out) (sym no_digit_line)

pub no_number_lines : (text : List ℕ) → length text ≡ 0 → number_lines text ≡ digit_lines (lines_of text)
unfolding number_lines digit_lines parts_with lines_of parts_of without_returns has_digit
no_number_lines [] e = refl
no_number_lines (b ∷ text) e = absurd (suc-ne-zero (length text) e)
