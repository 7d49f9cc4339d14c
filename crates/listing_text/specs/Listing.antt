-- docs/SCOPE.md#the-listing. Document 01, "Sheet A and its relatives": the listing of a plan, read from the bytes of sheet and plan alone.
use Rattle.std.specs.Prelude.{ℕ, ◌+◌, List, [], ◌∷◌, leb}
use Rattle.wire.specs.Bytes.{u16_at, u32_at, u64_at}
use Rattle.sheet.specs.Fields.{rows_of}
use Rattle.sheet.specs.Refusal.{header_right, unless}
use Rattle.constructive.specs.Outcome.{Round}
use Rattle.plan.specs.Plan.{round_record_at, row_record_at}
use Rattle.plan.specs.Read.{rounds_at, aside_at, id_at, first_stop_at, next_at, read_plan}
use Rattle.listing_text.specs.Text.{text, concatenated, decimal, hex16}

-- ---- parts of a line
-- a name, and a number that is "decimal"
unfoldable pub field : List ℕ → ℕ → List ℕ
field name n = concatenated (name ∷ decimal n ∷ [])

-- "f64 bits in hexadecimal", after a space
unfoldable pub word : ℕ → List ℕ
word bits = concatenated ((32 ∷ []) ∷ hex16 bits ∷ [])

-- a line ends in two words
abbrev pub figure_parts : List ℕ → ℕ → List (List ℕ)
figure_parts plan at = word (u64_at plan at) ∷ word (u64_at plan (at + 8)) ∷ (10 ∷ []) ∷ []

unfoldable pub figures_text : List ℕ → ℕ → List ℕ
figures_text plan at = concatenated (figure_parts plan at)

-- ---- lines
-- "`aside` is the first set-aside stop."
abbrev pub header_parts : List ℕ → List (List ℕ)
header_parts plan = field (text "rounds ") (rounds_at plan) ∷ field (text " aside ") (aside_at plan) ∷ (10 ∷ []) ∷ []

unfoldable pub header_line : List ℕ → List ℕ
header_line plan = concatenated (header_parts plan)

-- "A round line starts with its vehicle's id, `rest` is the rest place (..). It ends in distance and duration": the k-th round, from 0
abbrev pub round_parts : List ℕ → ℕ → List (List ℕ)
round_parts plan k =
    field (text "round ") (id_at plan k)
    ∷ field (text " first ") (first_stop_at plan k)
    ∷ field (text " load ") (u32_at plan (round_record_at k + 4))
    ∷ field (text " rest ") (u16_at plan (round_record_at k + 10))
    ∷ figures_text plan (round_record_at k + 16)
    ∷ []

unfoldable pub round_line : List ℕ → ℕ → List ℕ
round_line plan k = concatenated (round_parts plan k)

-- "a stop line in arrival and departure": a row, of n
abbrev pub stop_parts : List ℕ → ℕ → ℕ → List (List ℕ)
stop_parts plan n row =
    field (text "stop ") row
    ∷ field (text " next ") (next_at plan n row)
    ∷ field (text " load ") (u32_at plan (row_record_at n row + 4))
    ∷ figures_text plan (row_record_at n row + 8)
    ∷ []

unfoldable pub stop_line : List ℕ → ℕ → ℕ → List ℕ
stop_line plan n row = concatenated (stop_parts plan n row)

-- ---- the listing
unfoldable pub stop_lines : List ℕ → ℕ → List ℕ → List (List ℕ)
stop_lines plan n [] = []
stop_lines plan n (row ∷ rows) = stop_line plan n row ∷ stop_lines plan n rows

-- "Stops follow their rounds"
unfoldable pub round_text : List ℕ → ℕ → ℕ → List ℕ → List ℕ
round_text plan n k stops = concatenated (round_line plan k ∷ concatenated (stop_lines plan n stops) ∷ [])

-- the rounds from the k-th on
unfoldable pub round_texts : List ℕ → ℕ → ℕ → List Round → List (List ℕ)
round_texts plan n k [] = []
round_texts plan n k (r ∷ rs) = round_text plan n k r.stops ∷ round_texts plan n (k + 1) rs

-- "set-aside stops come last": they hold only next, so their load is 0 and their words are zero
abbrev pub listing_parts : List ℕ → List ℕ → List (List ℕ)
listing_parts s plan =
    header_line plan
    ∷ concatenated (round_texts plan (rows_of s) 0 (read_plan s plan).rounds)
    ∷ concatenated (stop_lines plan (rows_of s) (read_plan s plan).aside)
    ∷ []

unfoldable pub listing_of : List ℕ → List ℕ → List ℕ
listing_of s plan = concatenated (listing_parts s plan)

-- "prints `refused N`"
unfoldable pub refused_text : ℕ → List ℕ
refused_text number = concatenated (field (text "refused ") number ∷ (10 ∷ []) ∷ [])

-- ---- what the listing program answers
abbrev pub listing_rows : ℕ
listing_rows = 48

-- "up to 48 rows (above: refusal 2)": tested where 2 is, after 1 and before whatever the planner tells
unfoldable pub listing_refusal : List ℕ → ℕ → ℕ
listing_refusal s told = unless (header_right s) 1 (unless (leb (rows_of s) listing_rows) 2 told)
