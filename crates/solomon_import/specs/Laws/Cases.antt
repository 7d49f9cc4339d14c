-- Small texts, computed from the definitions: what is read of them, and which are refused.
use Rattle.std.specs.Prelude.{◌≡◌, refl, ℕ, zero, suc, ◌+◌, ◌/◌, ◌%◌, List, [], ◌∷◌, ◌++◌, map, pos}
use Prim.Native.Char.{code}
use Prim.Native.String.{String, [] as nothing, ◌∷◌ as ◌before◌}
use Rattle.sheet.specs.Ranges.{coordinate, demand}
use Rattle.solomon_text.specs.Lines.{parts_of, parts_with, without_returns, lines_of, has_digit, digit_lines, number_lines, words_of}
use Rattle.solomon_text.specs.Numbers.{all_digits, is_whole_number, after_digits, size_of, whole_number, all_whole_numbers, holds_numbers, number_at}
use Rattle.solomon_import.specs.Instance.{Customer, is_row_line, are_row_lines, form_right, customer_of, customers_of, capacity_of}
use Rattle.solomon_import.specs.Import.{window_range, customer_range, customers_range, import_length, import_refusal}

-- the bytes of a quoted text
abbrev quoted : String → List ℕ
quoted nothing = []
quoted (c before cs) = code c ∷ quoted cs

-- a text of a depot and one stop, by its vehicle line and its stop's line
abbrev instance : String → String → List ℕ
instance vehicle stop = quoted "C1\n\n" ++ (quoted vehicle ++ (quoted "\n0 40 50 0 0 1236 0\n" ++ (quoted stop ++ quoted "\n")))

abbrev with_vehicle : String → List ℕ
with_vehicle vehicle = instance vehicle "1 45 68 10 912 967 90"

abbrev with_stop : String → List ℕ
with_stop stop = instance "25 200" stop

-- one instance in short, as it is published, with tabs, leading zeros and -0, and without the last LF
abbrev alike : List (List ℕ)
alike =
    quoted "C1\n\n25 200\n0 40 50 0 0 1236 0\n1 45 68 10 912 967 90\n"
    ∷ quoted "C101\r\n\r\nVEHICLE\r\nNUMBER     CAPACITY\r\n  25         200\r\n\r\nCUSTOMER\r\nCUST NO.  XCOORD.   YCOORD.    DEMAND   READY TIME  DUE DATE   SERVICE   TIME\r\n \r\n    0      40         50          0          0       1236          0   \r\n    1      45         68         10        912        967         90   \r\n"
    ∷ quoted "C1\n\n\t025\t0200\n00\t40 050 -0 0 1236 0\t\n\t 01 45 68 10 912 967 90\n"
    ∷ quoted "C1\n\n25 200\n0 40 50 0 0 1236 0\n1 45 68 10 912 967 90"
    ∷ []

abbrev as_read : List Customer
as_read =
    record { x = pos 40; y = pos 50; demand = pos 0; ready = pos 0; due = pos 1236; service = pos 0 }
    ∷ record { x = pos 45; y = pos 68; demand = pos 10; ready = pos 912; due = pos 967; service = pos 90 }
    ∷ []

-- n row lines from row k on, whose numbers have three digits, and then a last line
abbrev row_lines_from : ℕ → ℕ → String → List ℕ
row_lines_from zero k last = quoted last
row_lines_from (suc n) k last = (48 + k / 100) ∷ (48 + k / 10 % 10) ∷ (48 + k % 10) ∷ quoted " 0 0 0 0 0 0\n" ++ row_lines_from n (k + 1) last

abbrev with_rows : ℕ → String → List ℕ
with_rows n last = quoted "\n1 0\n" ++ row_lines_from n 0 last

-- the answer to each of these texts with a buffer of so many bytes
abbrev Answers : ℕ → ℕ → List (List ℕ) → Type 0
Answers room answer texts = map (λ text. import_refusal text room) texts ≡ map (λ text. answer) texts

pub record TextCases : Type 0 where
  pub customers : map customers_of alike ≡ map (λ text. as_read) alike
  pub capacity : map capacity_of alike ≡ map (λ text. pos 200) alike
  pub taken : Answers 216 0 alike
  -- a number that may carry a minus, and the ends of the ranges
  pub ends : Answers 216 0 (instance "-1 2147483647" "1 -1000000 1000000 1000000 1000000000 1000000000 1000000000" ∷ instance "0 0" "1 0 0 0 0 0 0" ∷ [])
  pub form :
      Answers 216 11 (
      []
      ∷ quoted "C1\n\n25 200\n"
      ∷ with_vehicle "25"
      ∷ with_vehicle "25 200 1"
      ∷ with_stop "1 45 68 10 912 967"
      ∷ with_stop "1 45 68 10 912 967 90 0"
      ∷ with_stop "2 45 68 10 912 967 90"
      ∷ with_stop "1 45 68 10 912 967 90.0"
      ∷ with_stop "1 45 68 10 912 967 +90"
      ∷ with_stop "1 45 68 10 912 967 - 90"
      ∷ with_stop "1 45 68 10 912 967 9-0"
      ∷ with_stop "1 45 68\r10 912 967 90"
      ∷ quoted "C1\n\n25 200\n0 40 50 0 0 1236 0\r"
      ∷ []
      )
  pub range :
      Answers 216 5 (
      with_stop "1 1000001 68 10 912 967 90"
      ∷ with_stop "1 45 -1000001 10 912 967 90"
      ∷ with_stop "1 45 68 1000001 912 967 90"
      ∷ with_stop "1 45 68 -1 912 967 90"
      ∷ with_stop "1 45 68 10 968 967 90"
      ∷ with_stop "1 45 68 10 -1 967 90"
      ∷ with_stop "1 45 68 10 912 1000000001 90"
      ∷ with_stop "1 45 68 10 912 967 -1"
      -- 2 ^ 64 and 2 ^ 128
      ∷ with_stop "1 45 68 18446744073709551616 912 967 90"
      ∷ with_stop "1 45 68 10 912 967 340282366920938463463374607431768211456"
      ∷ []
      )
  pub vehicle : Answers 216 7 (with_vehicle "25 -1" ∷ with_vehicle "25 2147483648" ∷ [])
  pub short : Answers 215 4 alike
  -- "more than 100 customers after the depot row"
  pub all : import_refusal (with_rows 101 "") 86544 ≡ 0
  pub many : import_refusal (with_rows 102 "") 0 ≡ 12
  -- 11, 12, 5, 7 and then 4, by texts that each later one holds of too
  pub order :
      map (λ text. import_refusal text 0) (with_rows 102 "102 0 0 -1 0 0" ∷ with_rows 102 "102 0 0 -1 0 0 0" ∷ instance "25 -1" "1 45 68 -1 912 967 90" ∷ with_vehicle "25 -1" ∷ with_vehicle "25 200" ∷ [])
      ≡ 11 ∷ 12 ∷ 5 ∷ 7 ∷ 4 ∷ []

pub text_cases : TextCases
unfolding import_refusal form_right are_row_lines is_row_line customers_of customer_of capacity_of customers_range customer_range window_range coordinate demand import_length number_lines digit_lines has_digit lines_of without_returns parts_of parts_with words_of holds_numbers all_whole_numbers is_whole_number all_digits number_at whole_number size_of after_digits
text_cases = record { customers = refl; capacity = refl; taken = refl; ends = refl; form = refl; range = refl; vehicle = refl; short = refl; all = refl; many = refl; order = refl }
