-- docs/SCOPE.md#the-importer. Document 02, Three: words that are whole numbers, of any length, and what they stand for.
use Rattle.std.specs.Prelude.{ℕ, zero, suc, ◌+◌, ◌-◌, ◌*◌, Bool, true, false, ◌&&◌, List, [], ◌∷◌, eqb, leb, ℤ, pos, negsuc, length, get_or}
use Rattle.solomon_text.specs.Lines.{is_digit, is_filled, words_of}

-- ---- a word
-- "a number may carry a minus"
abbrev pub has_minus : List ℕ → Bool
has_minus [] = false
has_minus (b ∷ bs) = eqb b 45

abbrev pub unless_minus : Bool → ℕ → List ℕ → List ℕ
unless_minus true b bs = bs
unless_minus false b bs = b ∷ bs

abbrev pub without_minus : List ℕ → List ℕ
without_minus [] = []
without_minus (b ∷ bs) = unless_minus (eqb b 45) b bs

-- nothing but digits
unfoldable pub all_digits : List ℕ → Bool
all_digits [] = true
all_digits (b ∷ bs) = is_digit b && all_digits bs

-- a word is a whole number if it has one or more digits and nothing else but a minus before them
unfoldable pub is_whole_number : List ℕ → Bool
is_whole_number word = is_filled (without_minus word) && all_digits (without_minus word)

-- the number whose digits are those of n and then these, '0' being 48
unfoldable pub after_digits : ℕ → List ℕ → ℕ
after_digits n [] = n
after_digits n (b ∷ bs) = after_digits (10 * n + (b - 48)) bs

unfoldable pub size_of : List ℕ → ℕ
size_of word = after_digits 0 (without_minus word)

-- "-0 is 0"
abbrev pub negated : ℕ → ℤ
negated zero = pos 0
negated (suc n) = negsuc n

abbrev pub with_sign : Bool → ℕ → ℤ
with_sign true n = negated n
with_sign false n = pos n

-- the whole number that a word stands for
unfoldable pub whole_number : List ℕ → ℤ
whole_number word = with_sign (has_minus word) (size_of word)

-- ---- a line
-- every word is a whole number
unfoldable pub all_whole_numbers : List (List ℕ) → Bool
all_whole_numbers [] = true
all_whole_numbers (word ∷ words) = is_whole_number word && all_whole_numbers words

-- the line holds n whole numbers, and nothing else but spaces and tabs
unfoldable pub holds_numbers : ℕ → List ℕ → Bool
holds_numbers n line = all_whole_numbers (words_of line) && eqb (length (words_of line)) n

-- its word, and its number, counted n from 0
abbrev pub word_at : List ℕ → ℕ → List ℕ
word_at line n = get_or (words_of line) n []

unfoldable pub number_at : List ℕ → ℕ → ℤ
number_at line n = whole_number (word_at line n)

-- the number is k
abbrev pub equals : ℕ → ℤ → Bool
equals k (pos n) = eqb n k
equals k (negsuc n) = false

-- the number is from 0 to most
abbrev pub is_up_to : ℕ → ℤ → Bool
is_up_to most (pos n) = leb n most
is_up_to most (negsuc n) = false
