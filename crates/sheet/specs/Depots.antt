-- docs/SCOPE.md#the-sheet. Document 01, "models/customer.rs": "Depots are the leading rows marked so; row 0 counts as one even unmarked, and a depot mark after the leading rows means nothing."
use Rattle.std.specs.Prelude.{ℕ, zero, suc, ◌+◌, Bool, true, false, List}
use Rattle.sheet.specs.Fields.{rows_of, row_at, row_marks, marked}

abbrev pub is_depot : List ℕ → ℕ → Bool
is_depot s i = marked 1 (row_marks s (row_at i))

abbrev pub or_stop : Bool → ℕ → ℕ
or_stop true n = suc n
or_stop false n = 0

-- how many of the n rows from row i on are marked before the first that is not
unfoldable pub leading : List ℕ → ℕ → ℕ → ℕ
leading s zero i = 0
leading s (suc n) i = or_stop (is_depot s i) (leading s n (i + 1))

abbrev pub at_least_one : ℕ → ℕ
at_least_one zero = 1
at_least_one (suc n) = suc n

-- the number of depots: at least one, so a sheet of 0 rows counts one too, as the Rust's `num_depots` of an empty table does
unfoldable pub depots_of : List ℕ → ℕ
depots_of s = at_least_one (leading s (rows_of s) 0)
