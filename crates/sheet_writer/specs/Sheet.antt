-- docs/SCOPE.md#the-sheet. Document 01, "The sheet": the bytes of a sheet, made of the values of its fields. That they are read back to these values by the sheet's own definitions is proved.
use Rattle.std.specs.Prelude.{ℕ, ◌-◌, List, [], ◌∷◌, ◌++◌, length, ℤ, pos, negsuc, Float}
use Rattle.std.specs.Float.{binary64}
use Rattle.std.specs.Float.Ieee.{to_bits}
use Rattle.wire.specs.Bytes.{bytes}
use Rattle.sheet_writer.specs.declared.RowFields.{RowFields}
use Rattle.sheet_writer.specs.declared.VehicleFields.{VehicleFields}

-- the values of a sheet's fields; its entries are the distances row by row, and then the times likewise if there are any
pub record SheetFields : Type 0 where
  pub method : ℕ
  pub times : ℕ
  pub rows : List RowFields
  pub vehicles : List VehicleFields
  pub entries : List Float

-- two's complement at 32 bits: what `signed` reads back
abbrev pub unsigned : ℤ → ℕ
unsigned (pos n) = n
unsigned (negsuc n) = 0xffff_ffff - n

-- an f64 by its bit pattern
abbrev pub float_bytes : Float → List ℕ
float_bytes x = bytes 8 (to_bits binary64 x)

-- "Header, 16 bytes: rows u16, vehicles u16, method u8 (..), time table u8 (0 or 1), ten zero bytes."
unfoldable pub header_record : ℕ → ℕ → ℕ → ℕ → List ℕ
header_record rows vehicles method times = bytes 2 rows ++ (bytes 2 vehicles ++ (bytes 1 method ++ (bytes 1 times ++ bytes 10 0)))

-- "horizontal and vertical coordinate i32, demand i32, marks u32 (..), then f64 service, ready, due, penalty"
unfoldable pub row_record : RowFields → List ℕ
row_record r =
    bytes 4 (unsigned r.x)
    ++ (bytes 4 (unsigned r.y)
    ++ (bytes 4 (unsigned r.demand)
    ++ (bytes 4 r.marks
    ++ (float_bytes r.service
    ++ (float_bytes r.ready
    ++ (float_bytes r.due
    ++ float_bytes r.penalty))))))

-- "id u32, depot u32, capacity i32, marks u32 (..), then f64 cost per distance, fixed cost, max distance, max duration, earliest, latest, rest duration"
unfoldable pub vehicle_record : VehicleFields → List ℕ
vehicle_record v =
    bytes 4 v.id
    ++ (bytes 4 v.depot
    ++ (bytes 4 (unsigned v.capacity)
    ++ (bytes 4 v.marks
    ++ (float_bytes v.cost_per_distance
    ++ (float_bytes v.fixed_cost
    ++ (float_bytes v.max_distance
    ++ (float_bytes v.max_duration
    ++ (float_bytes v.earliest
    ++ (float_bytes v.latest
    ++ float_bytes v.rest_duration)))))))))

-- records one after another
unfoldable pub records_bytes : {A : Type 0} → (A → List ℕ) → List A → List ℕ
records_bytes f [] = []
records_bytes f (x ∷ xs) = f x ++ records_bytes f xs

-- header, rows, vehicles and entries
unfoldable pub sheet_bytes : SheetFields → List ℕ
sheet_bytes f =
    header_record (length f.rows) (length f.vehicles) f.method f.times
    ++ (records_bytes row_record f.rows
    ++ (records_bytes vehicle_record f.vehicles
    ++ records_bytes float_bytes f.entries))
