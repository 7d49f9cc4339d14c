-- docs/SCOPE.md#sheet-a-and-its-relatives: document 01's sheet A, in parts, for the examples that are computed from it.
use Rattle.std.specs.Prelude.{ℕ, List, [], ◌∷◌, ◌++◌, replicate}
use Rattle.wire.specs.Bytes.{bytes}

-- f64 fields by their bit patterns: 1, 3, 4 and 10
abbrev pub f1 : ℕ
f1 = 0x3ff0_0000_0000_0000

abbrev pub f3 : ℕ
f3 = 0x4008_0000_0000_0000

abbrev pub f4 : ℕ
f4 = 0x4010_0000_0000_0000

abbrev pub f10 : ℕ
f10 = 0x4024_0000_0000_0000

abbrev pub f64s : List ℕ → List ℕ
f64s [] = []
f64s (n ∷ ns) = bytes 8 n ++ f64s ns

abbrev pub sheet_header : ℕ → ℕ → ℕ → List ℕ
sheet_header stop_rows vehicles method = bytes 2 stop_rows ++ (bytes 2 vehicles ++ (method ∷ replicate 11 0))

-- a row: vertical coordinate as its pattern, demand, marks, and service, ready, due, penalty
abbrev pub row_bytes : ℕ → ℕ → ℕ → List ℕ → List ℕ
row_bytes y demand marks times = bytes 4 0 ++ (bytes 4 y ++ (bytes 4 demand ++ (bytes 4 marks ++ f64s times)))

abbrev pub no_times : List ℕ
no_times = 0 ∷ 0 ∷ 0 ∷ 0 ∷ []

-- "depot (0, 0), stop 1 (0, 10), stop 2 (0, −10), demand 1 each"
abbrev pub stop_rows : List ℕ
stop_rows = row_bytes 0 0 0 no_times ++ (row_bytes 10 1 0 no_times ++ row_bytes 0xffff_fff6 1 0 no_times)

-- "vehicle 7, capacity 2, cost 1, fixed 0", of a depot
abbrev pub vehicle_bytes : ℕ → List ℕ
vehicle_bytes depot = bytes 4 7 ++ (bytes 4 depot ++ (bytes 4 2 ++ (bytes 4 0 ++ (bytes 8 f1 ++ replicate 48 0))))

-- "distances 0–1 and 0–2 are 10, 1–2 is 4; no times"
abbrev pub table_bytes : List ℕ
table_bytes = f64s (0 ∷ f10 ∷ f10 ∷ f10 ∷ 0 ∷ f4 ∷ f10 ∷ f4 ∷ 0 ∷ [])

abbrev pub sheet_a : ℕ → List ℕ
sheet_a method = sheet_header 3 1 method ++ (stop_rows ++ (vehicle_bytes 0 ++ table_bytes))

-- with a capacity of its vehicle
abbrev pub sheet_carrying : ℕ → List ℕ
sheet_carrying capacity = sheet_header 3 1 1 ++ (stop_rows ++ (bytes 4 7 ++ (bytes 4 0 ++ (bytes 4 capacity ++ (bytes 4 0 ++ (bytes 8 f1 ++ (replicate 48 0 ++ table_bytes)))))))
