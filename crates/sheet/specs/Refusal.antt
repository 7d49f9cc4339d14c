-- docs/SCOPE.md#refusals. Document 01, "Turned back": the number of the first condition of the table that holds, and 0 if none does.
use Rattle.std.specs.Prelude.{ℕ, Bool, true, false, not, ◌&&◌, ◌||◌, List, leb, eqb, length}
use Rattle.sheet.specs.Fields.{rows_of, vehicles_of, method_of, times_of, spare_of, sheet_length, plan_length, header_size, most_rows, most_vehicles}
use Rattle.sheet.specs.Ranges.{rows_in_range, entries_in_range, vehicles_in_range}

-- 1: "sheet under 16 bytes, time byte above 1, or spare header byte set"
unfoldable pub header_right : List ℕ → Bool
header_right s = leb header_size (length s) && (leb (times_of s) 1 && eqb (spare_of s) 0)

-- 2: "rows or vehicles above range"
unfoldable pub counts_right : List ℕ → Bool
counts_right s = leb (rows_of s) most_rows && leb (vehicles_of s) most_vehicles

-- 3: "method above 4"
unfoldable pub method_right : List ℕ → Bool
method_right s = leb (method_of s) 4

-- 4: "sheet or a plan buffer not of its exact length"
unfoldable pub lengths_right : List ℕ → ℕ → Bool
lengths_right s m = eqb (length s) (sheet_length s) && eqb m (plan_length s)

-- 8: "no vehicle, methods 0, 1, 4"
unfoldable pub needs_vehicle : ℕ → Bool
needs_vehicle m = eqb m 0 || (eqb m 1 || eqb m 4)

unfoldable pub fleet_right : List ℕ → Bool
fleet_right s = not (eqb (vehicles_of s) 0 && needs_vehicle (method_of s))

-- n unless the test passes, and then what follows
abbrev pub unless : Bool → ℕ → ℕ → ℕ
unless true n next = next
unless false n next = n

-- 5: "row field or mark out of range, or an unmarked field not zero"; 6: "distance or time out of range";
-- 7: "vehicle field, mark or depot out of range, unmarked field not zero, or repeated id"
unfoldable pub contents : List ℕ → ℕ
contents s =
    unless (rows_in_range s) 5
    (unless (entries_in_range s) 6
    (unless (vehicles_in_range s) 7
    (unless (fleet_right s) 8 0)))

-- the refusals 1 to 4, for which the header and the lengths are enough
unfoldable pub form : List ℕ → ℕ → ℕ
form s m =
    unless (header_right s) 1
    (unless (counts_right s) 2
    (unless (method_right s) 3
    (unless (lengths_right s m) 4 0)))

-- the refusal of a sheet with a plan buffer of m bytes
unfoldable pub refusal_of : List ℕ → ℕ → ℕ
refusal_of s m =
    unless (header_right s) 1
    (unless (counts_right s) 2
    (unless (method_right s) 3
    (unless (lengths_right s m) 4
    (contents s))))
