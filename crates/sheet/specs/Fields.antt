-- docs/SCOPE.md#the-sheet. Document 01, "The sheet": every field by its offset in the bytes. No other definition has a number of the sheet's sizes, offsets and greatest counts, but that an interval ends 8 bytes after it starts (Ranges); the code has them again, held to these.
use Rattle.std.specs.Prelude.{ℕ, ◌+◌, ◌*◌, ◌/◌, ◌%◌, Bool, List, eqb, ℤ}
use Rattle.wire.specs.Bytes.{le, u8_at, u16_at, u32_at, i32_at}

-- the sizes of the header, of a row and of a vehicle
abbrev pub header_size : ℕ
header_size = 16

abbrev pub row_size : ℕ
row_size = 48

abbrev pub vehicle_size : ℕ
vehicle_size = 72

-- "rows 0 to 101; vehicles 0 to 16"
-- (that rows are no more is a clause of what goes by their number before there is a `Sheet`)
abbrev pub most_rows : ℕ
most_rows = 101

abbrev pub most_vehicles : ℕ
most_vehicles = 16

-- "Header, 16 bytes: rows u16, vehicles u16, method u8 (..), time table u8 (0 or 1), ten zero bytes."
unfoldable pub rows_of : List ℕ → ℕ
rows_of s = u16_at s 0

unfoldable pub vehicles_of : List ℕ → ℕ
vehicles_of s = u16_at s 2

unfoldable pub method_of : List ℕ → ℕ
method_of s = u8_at s 4

unfoldable pub times_of : List ℕ → ℕ
times_of s = u8_at s 5

-- the ten zero bytes, as one number
unfoldable pub spare_of : List ℕ → ℕ
spare_of s = le 10 s 6

-- "Each row, 48 bytes": where row i starts. The fields below go by the start of their record.
abbrev pub row_at : ℕ → ℕ
row_at i = header_size + row_size * i

-- "horizontal and vertical coordinate i32, demand i32, marks u32 (..), then f64 service, ready, due, penalty"
abbrev pub x_field : List ℕ → ℕ → ℤ
x_field s at = i32_at s at

abbrev pub y_field : List ℕ → ℕ → ℤ
y_field s at = i32_at s (at + 4)

abbrev pub demand_field : List ℕ → ℕ → ℤ
demand_field s at = i32_at s (at + 8)

unfoldable pub row_marks : List ℕ → ℕ → ℕ
row_marks s at = u32_at s (at + 12)

abbrev pub service_at : ℕ → ℕ
service_at at = at + 16

abbrev pub ready_at : ℕ → ℕ
ready_at at = at + 24

abbrev pub due_at : ℕ → ℕ
due_at at = at + 32

abbrev pub penalty_at : ℕ → ℕ
penalty_at at = at + 40

-- "Each vehicle, 72 bytes": where vehicle v starts.
abbrev pub vehicle_at : List ℕ → ℕ → ℕ
vehicle_at s v = header_size + row_size * rows_of s + vehicle_size * v

-- "id u32, depot u32, capacity i32, marks u32 (..), then f64 cost per distance, fixed cost, max distance, max duration, earliest, latest, rest duration"
unfoldable pub id_field : List ℕ → ℕ → ℕ
id_field s at = u32_at s at

unfoldable pub depot_field : List ℕ → ℕ → ℕ
depot_field s at = u32_at s (at + 4)

abbrev pub capacity_field : List ℕ → ℕ → ℤ
capacity_field s at = i32_at s (at + 8)

unfoldable pub vehicle_marks : List ℕ → ℕ → ℕ
vehicle_marks s at = u32_at s (at + 12)

abbrev pub cost_at : ℕ → ℕ
cost_at at = at + 16

abbrev pub fixed_at : ℕ → ℕ
fixed_at at = at + 24

abbrev pub max_distance_at : ℕ → ℕ
max_distance_at at = at + 32

abbrev pub max_duration_at : ℕ → ℕ
max_duration_at at = at + 40

abbrev pub earliest_at : ℕ → ℕ
earliest_at at = at + 48

abbrev pub latest_at : ℕ → ℕ
latest_at at = at + 56

abbrev pub rest_at : ℕ → ℕ
rest_at at = at + 64

-- "Then rows × rows distances f64, then times if marked": where the tables start, how many entries they have, where entry k starts.
abbrev pub tables_at : List ℕ → ℕ
tables_at s = header_size + row_size * rows_of s + vehicle_size * vehicles_of s

abbrev pub entries_of : List ℕ → ℕ
entries_of s = (1 + times_of s) * (rows_of s * rows_of s)

abbrev pub entry_at : List ℕ → ℕ → ℕ
entry_at s k = tables_at s + 8 * k

-- the exact length of the sheet, and "Exactly 16 + 80 × rows bytes", that of its plan
abbrev pub sheet_length : List ℕ → ℕ
sheet_length s = tables_at s + 8 * entries_of s

-- (a plan of it is a clause, of two buffers that the host lends as bytes)
abbrev pub plan_length : List ℕ → ℕ
plan_length s = 16 + 80 * rows_of s

-- "sum of 1 depot, 2 window, 4 penalty" and "1 max distance, 2 max duration, 4 rest": whether a mark stands in the sum
unfoldable pub marked : ℕ → ℕ → Bool
marked mark marks = eqb (marks / mark % 2) 1
