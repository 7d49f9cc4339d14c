-- docs/SCOPE.md#the-importer. Document 02, Three: the lines of a text and the words of a line.
use Rattle.std.specs.Prelude.{ℕ, Bool, true, false, ◌&&◌, ◌||◌, List, [], ◌∷◌, leb, eqb}

-- ---- a list cut into parts
-- an element in front of the first part
abbrev pub in_front : ℕ → List (List ℕ) → List (List ℕ)
in_front b [] = (b ∷ []) ∷ []
in_front b (part ∷ parts) = (b ∷ part) ∷ parts

abbrev pub cut_or : Bool → ℕ → List (List ℕ) → List (List ℕ)
cut_or true b parts = [] ∷ parts
cut_or false b parts = in_front b parts

-- the parts between the elements that a test holds of, which stand in no part
unfoldable pub parts_of : (ℕ → Bool) → List ℕ → List (List ℕ)
parts_of cut [] = [] ∷ []
parts_of cut (b ∷ bs) = cut_or (cut b) b (parts_of cut bs)

abbrev pub keep_part : Bool → List ℕ → List (List ℕ) → List (List ℕ)
keep_part true part parts = part ∷ parts
keep_part false part parts = parts

-- the parts that a test holds of
unfoldable pub parts_with : (List ℕ → Bool) → List (List ℕ) → List (List ℕ)
parts_with test [] = []
parts_with test (part ∷ parts) = keep_part (test part) part (parts_with test parts)

-- ---- lines
-- LF is 10, and CR 13
abbrev pub is_feed : ℕ → Bool
is_feed b = eqb b 10

abbrev pub starts_with_feed : List ℕ → Bool
starts_with_feed [] = false
starts_with_feed (b ∷ bs) = is_feed b

abbrev pub unless_return : Bool → ℕ → List ℕ → List ℕ
unless_return true b bs = bs
unless_return false b bs = b ∷ bs

-- "Lines end in LF or CR LF": a CR right before an LF goes with it, any other is a byte of its line
unfoldable pub without_returns : List ℕ → List ℕ
without_returns [] = []
without_returns (b ∷ bs) = unless_return (eqb b 13 && starts_with_feed bs) b (without_returns bs)

-- "the last perhaps in neither": what follows the last LF is a line too, perhaps an empty one
unfoldable pub lines_of : List ℕ → List (List ℕ)
lines_of text = parts_of is_feed (without_returns text)

-- the first line of a text, and those after it
abbrev pub first_or : List (List ℕ) → List ℕ
first_or [] = []
first_or (line ∷ lines) = line

abbrev pub after_first : List (List ℕ) → List (List ℕ)
after_first [] = []
after_first (line ∷ lines) = lines

unfoldable pub first_line : List ℕ → List ℕ
first_line text = first_or (lines_of text)

-- ---- lines with a digit
-- a digit is a byte from 48 to 57
abbrev pub is_digit : ℕ → Bool
is_digit b = leb 48 b && leb b 57

unfoldable pub has_digit : List ℕ → Bool
has_digit [] = false
has_digit (b ∷ bs) = is_digit b || has_digit bs

-- those lines that have one
unfoldable pub digit_lines : List (List ℕ) → List (List ℕ)
digit_lines lines = parts_with has_digit lines

-- "a name line of any bytes (..) later lines without a digit are skipped": the lines that count
unfoldable pub number_lines : List ℕ → List (List ℕ)
number_lines text = digit_lines (after_first (lines_of text))

-- ---- words
-- "spaces or tabs part the numbers and may surround them"
abbrev pub is_blank : ℕ → Bool
is_blank b = eqb b 32 || eqb b 9

abbrev pub is_filled : List ℕ → Bool
is_filled [] = false
is_filled (b ∷ bs) = true

-- the words of a line, between blanks
unfoldable pub words_of : List ℕ → List (List ℕ)
words_of line = parts_with is_filled (parts_of is_blank line)
