-- The lines of a text. Assumes nothing.
use Rattle.std.specs.Prelude.{◌≡◌, ℕ, suc, ◌≤◌, ◌<◌, Bool, true, false, not, ◌&&◌, ◌||◌, List, [], ◌∷◌, ◌++◌, T, eqb, length, ◌+◌, get_or, drop}
use Rattle.std.specs.List.{list_any}
use Rattle.std.proofs.Math.Path.{refl}
use Rattle.std.proofs.Common.{ap, ◌∙◌, zero-le, le_refl, zero-lt-suc, arith, add-one, drop_of_length-le, drop-cons}
use Rattle.std.proofs.Math.Bool.{and-false}
use Rattle.std.specs.Float.Ieee.Bits.{is_true}
use Rattle.solomon_text.specs.Lines.{parts_of, parts_with, keep_part, is_feed, starts_with_feed, unless_return, without_returns, lines_of, after_first, first_line, is_digit, has_digit, digit_lines, is_filled}
use Rattle.solomon_text.specs.Laws.Parts.{Uncut, one_part, part_first, first_and_rest, first_within}

-- ---- one line
-- a line's bytes up to its LF, without the CR at their end
unfoldable pub without_last_return : List ℕ → List ℕ
without_last_return [] = []
without_last_return (b ∷ bs) = unless_return (eqb b 13 && not (is_filled bs)) b (without_last_return bs)

filled : (bs : List ℕ) (b : ℕ) → is_filled (bs ++ b ∷ []) ≡ true
filled [] b = refl
filled (x ∷ bs) b = refl

pub return_gone : (bs : List ℕ) → without_last_return (bs ++ 13 ∷ []) ≡ bs
unfolding without_last_return
return_gone [] = refl
return_gone (b ∷ bs) = rw (filled bs 13, and-false (eqb b 13), return_gone bs) refl

pub no_return : (bs : List ℕ) (b : ℕ) → eqb b 13 ≡ false → without_last_return (bs ++ b ∷ []) ≡ bs ++ b ∷ []
unfolding without_last_return
no_return [] b e = rw e refl
no_return (x ∷ bs) b e = rw (filled bs b, and-false (eqb x 13), no_return bs b e) refl

unless_uncut : (t : Bool) (b : ℕ) (bs : List ℕ) → is_feed b ≡ false → Uncut is_feed bs → Uncut is_feed (unless_return t b bs)
unless_uncut true b bs e u = u
unless_uncut false b bs e u = (e, u)

still_uncut : (bs : List ℕ) → Uncut is_feed bs → Uncut is_feed (without_last_return bs)
unfolding without_last_return
still_uncut [] u = tt
still_uncut (b ∷ bs) u = unless_uncut (eqb b 13 && not (is_filled bs)) b (without_last_return bs) u.0 (still_uncut bs u.1)

feed_starts : (bs rest : List ℕ) → Uncut is_feed bs → starts_with_feed (bs ++ 10 ∷ rest) ≡ not (is_filled bs)
feed_starts [] rest u = refl
feed_starts (b ∷ bs) rest u = u.0

unless_append : (t : Bool) (b : ℕ) (bs rest : List ℕ) → unless_return t b (bs ++ rest) ≡ unless_return t b bs ++ rest
unless_append true b bs rest = refl
unless_append false b bs rest = refl

returns_before : (bs rest : List ℕ) → Uncut is_feed bs → without_returns (bs ++ 10 ∷ rest) ≡ without_last_return bs ++ 10 ∷ without_returns rest
unfolding without_returns without_last_return
returns_before [] rest u = refl
returns_before (b ∷ bs) rest u = rw (feed_starts bs rest u.1, returns_before bs rest u.1) (unless_append (eqb b 13 && not (is_filled bs)) b (without_last_return bs) (10 ∷ without_returns rest))

-- the line that an LF ends
pub line_fed : (bs rest : List ℕ) → Uncut is_feed bs → lines_of (bs ++ 10 ∷ rest) ≡ without_last_return bs ∷ lines_of rest
unfolding lines_of
line_fed bs rest u = rw (returns_before bs rest u) (part_first is_feed (without_last_return bs) 10 (without_returns rest) (still_uncut bs u) refl)

no_feed_starts : (bs : List ℕ) → Uncut is_feed bs → starts_with_feed bs ≡ false
no_feed_starts [] u = refl
no_feed_starts (b ∷ bs) u = u.0

no_returns : (bs : List ℕ) → Uncut is_feed bs → without_returns bs ≡ bs
unfolding without_returns
no_returns [] u = refl
no_returns (b ∷ bs) u = rw (no_feed_starts bs u.1, and-false (eqb b 13), no_returns bs u.1) refl

-- the line that the text's end ends
pub last_line : (bs : List ℕ) → Uncut is_feed bs → lines_of bs ≡ bs ∷ []
unfolding lines_of
last_line bs u = rw (no_returns bs u) (one_part is_feed bs u)

-- ---- the lines with a digit
lines_from_first : (t : List ℕ) → lines_of t ≡ first_line t ∷ after_first (lines_of t)
unfolding lines_of first_line
lines_from_first t = first_and_rest is_feed (without_returns t)

digit_lines_from : (t : List ℕ) (b : Bool) → has_digit (first_line t) ≡ b → digit_lines (lines_of t) ≡ keep_part b (first_line t) (digit_lines (after_first (lines_of t)))
unfolding digit_lines parts_with
digit_lines_from t b e = ap digit_lines (lines_from_first t) ∙ ap (λ (k : Bool). keep_part k (first_line t) (digit_lines (after_first (lines_of t)))) e

pub digit_line_first : (t : List ℕ) → T (has_digit (first_line t)) → digit_lines (lines_of t) ≡ first_line t ∷ digit_lines (after_first (lines_of t))
digit_line_first t h = digit_lines_from t true (is_true (has_digit (first_line t)) h)

pub digit_line_later : (t : List ℕ) → has_digit (first_line t) ≡ false → digit_lines (lines_of t) ≡ digit_lines (after_first (lines_of t))
digit_line_later t e = digit_lines_from t false e

pub no_digit_line : digit_lines (lines_of []) ≡ []
unfolding digit_lines parts_with lines_of without_returns parts_of has_digit
no_digit_line = refl

-- ---- how long a first line is
unless_within : (t : Bool) (b : ℕ) (bs : List ℕ) → length (unless_return t b bs) ≤ suc (length bs)
unless_within true b bs = omega arith
unless_within false b bs = le_refl (suc (length bs))

returns_within : (t : List ℕ) → length (without_returns t) ≤ length t
unfolding without_returns
returns_within [] = zero-le
returns_within (b ∷ bs) =
    let h = unless_within (eqb b 13 && starts_with_feed bs) b (without_returns bs) in
    let i = returns_within bs in
    omega arith

pub first_line_within : (t : List ℕ) → length (first_line t) ≤ length t
unfolding first_line lines_of
first_line_within t =
    let h = first_within is_feed (without_returns t) in
    let i = returns_within t in
    omega arith

pub digit_line_filled : (line : List ℕ) → T (has_digit line) → 0 < length line
unfolding has_digit
digit_line_filled [] h = absurd h
digit_line_filled (b ∷ bs) h = zero-lt-suc (length bs)

-- ---- a digit anywhere
pub has_digit_any : (bs : List ℕ) → list_any is_digit bs ≡ has_digit bs
unfolding has_digit
has_digit_any [] = refl
has_digit_any (b ∷ bs) = ap (λ (t : Bool). is_digit b || t) (has_digit_any bs)

-- ---- a walk to the first digit
module _ (line : List ℕ) (i : ℕ) (h : i < length line) where
  here : drop i line ≡ get_or line i 0 ∷ drop (i + 1) line
  here = rw add-one (drop-cons line i 0 h)

  pub digit_here : is_digit (get_or line i 0) ≡ true → has_digit (drop i line) ≡ true
  unfolding has_digit
  digit_here e = rw (here, e) refl

  pub digit_later : is_digit (get_or line i 0) ≡ false → has_digit (drop i line) ≡ has_digit (drop (i + 1) line)
  unfolding has_digit
  digit_later e = rw (here, e) refl

pub no_digit_left : (line : List ℕ) (i : ℕ) → length line ≤ i → has_digit (drop i line) ≡ false
unfolding has_digit
no_digit_left line i h = rw (drop_of_length-le line h) refl
