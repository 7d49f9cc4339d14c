-- What the probes take: an accepted sheet, one of its vehicles, and rows.
use Rattle.std.specs.Prelude.{Bool, not, ◌&&◌, List, ℕ, ◌%◌, ◌<◌, leb, ltb, eqb, length, get_or}
use Rattle.numbers.specs.All.{all}
use Rattle.sheet.specs.Fields.{rows_of, vehicles_of, plan_length, most_rows}
use Rattle.sheet.specs.Refusal.{refusal_of}
use Rattle.sheet.specs.Values.{vehicle_of}
use Rattle.sheet.specs.Accepted.{Accepted}

-- not refused, with a plan buffer of the exact length
unfoldable pub accepted_of : List ℕ → Bool
accepted_of s = eqb (refusal_of s (plan_length s)) 0

-- a vehicle of an accepted sheet, whose depot is a row: a sheet without rows has none
unfoldable pub askable : List ℕ → ℕ → Bool
askable s v = accepted_of s && (ltb v (vehicles_of s) && ltb (vehicle_of s v).depot (rows_of s))

unfoldable pub rows_right : List ℕ → ℕ → Bool
rows_right stops rows = all (λ k. ltb (get_or stops k 0) rows) (length stops)

-- a round of rows, at most 101
unfoldable pub round_right : List ℕ → ℕ → Bool
round_right route rows = leb (length route) most_rows && rows_right route rows

-- rounds of `len` rows, from 1 to 101, one after another; none is cut short, and their number fits
unfoldable pub rounds_right : List ℕ → ℕ → ℕ → Bool
rounds_right stops len rows =
    not (eqb len 0)
    && (leb len most_rows
    && (ltb (length stops) 0xffff_ffff
    && (eqb (length stops % len) 0
    && rows_right stops rows)))

-- rows of an accepted sheet, from one of its rows as the depot
pub record RowsAsked (s : List ℕ) (depot : ℕ) (stops : List ℕ) : Type 0 where
  pub sheet : Accepted s
  pub home : depot < rows_of s
  pub row : (k : ℕ) → k < length stops → get_or stops k 0 < rows_of s
