-- What every constructor asks of its members and of its fleet.
use Rattle.std.specs.Prelude.{ℕ, ◌-◌, ◌≤◌, ◌<◌, List, length, get_or, take, drop, eqb, ◌≡◌}
use Rattle.sheet.specs.Fields.{vehicles_of, rows_of, most_rows}
use Rattle.sheet.specs.Accepted.{Accepted}
use Rattle.sheet.specs.Stops.{stops_with}
use Rattle.evaluation.specs.Routed.{Routed}

-- what stands in a table from `start` to `end`
abbrev pub part : List ℕ → ℕ → ℕ → List ℕ
part table start end = take (end - start) (drop start table)

-- members of a depot on an accepted sheet: they stand in the table of stops, from `start` to `total`
-- (a clause, as that none stands twice in them, and `Room`: facts of a table, of how far it is filled, and of the sheet)
pub record Members (s : List ℕ) (depot : ℕ) (stops : List ℕ) (start total : ℕ) : Type 0 where
  pub routed : Routed s depot (part stops start total)
  pub from : start ≤ total
  pub most : total ≤ most_rows
  pub within : total ≤ length stops

-- vehicles of the sheet, by their index (a clause, as the bound of one: see `Sheet`)
abbrev pub Fleet : List ℕ → List ℕ → Type 0
Fleet s fleet = (k : ℕ) → k < length fleet → get_or fleet k 0 < vehicles_of s

-- the members of depot d, ascending: `at` has, for each row, the depot whose member it is
unfoldable pub members_of : List ℕ → List ℕ → ℕ → List ℕ
members_of s at d = stops_with s (λ c. eqb (get_or at c 0) d)

-- such a table, a number for each row
pub record Gathers (s at : List ℕ) : Type 0 where
  pub sheet : Accepted s
  pub rows : length at ≡ rows_of s
