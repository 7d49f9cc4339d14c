-- docs/SCOPE.md#the-sheet. The stops of a sheet: its rows that are no depots.
use Rattle.std.specs.Prelude.{ℕ, ◌-◌, Bool, true, ◌&&◌, List, leb, ltb}
use Rattle.lists.specs.Filter.{filtered}
use Rattle.sheet.specs.Fields.{rows_of}
use Rattle.sheet.specs.Depots.{depots_of}

-- a stop: a row that is no depot
abbrev pub is_stop : List ℕ → ℕ → Bool
is_stop s row = leb (depots_of s) row && ltb row (rows_of s)

-- the stops that a test keeps, ascending
abbrev pub stops_with : List ℕ → (ℕ → Bool) → List ℕ
stops_with s p = filtered p (rows_of s - depots_of s) (depots_of s)

-- all of them
abbrev pub all_stops : List ℕ → List ℕ
all_stops s = stops_with s (λ c. true)
