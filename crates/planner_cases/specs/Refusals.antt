-- The examples of document 01's table "Turned back", computed from the definitions: one theorem over a table.
use Rattle.std.specs.Prelude.{ℕ, ◌≡◌, List, [], ◌∷◌, ◌++◌}
use Rattle.sheet.specs.SheetA.{f3, f4, f10, f64s, sheet_header, row_bytes, no_times, stop_rows, vehicle_bytes, table_bytes, sheet_a}
use Rattle.sheet.specs.Refusal.{refusal_of}

pub record RefusalCase : Type 0 where
  pub sheet : List ℕ
  pub room : ℕ
  pub answer : ℕ

abbrev pub RefusalRight : List RefusalCase → Type 0
RefusalRight [] = Unit {0}
RefusalRight (c ∷ cs) = (refusal_of c.sheet c.room ≡ c.answer) × RefusalRight cs

abbrev pub refusal_cases : List RefusalCase
refusal_cases =
    record { sheet = sheet_a 2; room = 256; answer = 0 }
    -- "0 bytes"
    ∷ record { sheet = []; room = 0; answer = 1 }
    -- "102 rows"
    ∷ record { sheet = sheet_header 102 1 2 ++ (stop_rows ++ (vehicle_bytes 0 ++ table_bytes)); room = 256; answer = 2 }
    -- "method 5"
    ∷ record { sheet = sheet_a 5; room = 256; answer = 3 }
    -- "one byte too many"
    ∷ record { sheet = sheet_a 2 ++ (0 ∷ []); room = 256; answer = 4 }
    ∷ record { sheet = sheet_a 2; room = 257; answer = 4 }
    -- "due 3, ready 4"
    ∷ record { sheet = sheet_header 3 1 2 ++ (row_bytes 0 0 0 no_times ++ (row_bytes 10 1 2 (0 ∷ f4 ∷ f3 ∷ 0 ∷ []) ++ (row_bytes 0xffff_fff6 1 0 no_times ++ (vehicle_bytes 0 ++ table_bytes)))); room = 256; answer = 5 }
    -- "NaN"
    ∷ record { sheet = sheet_header 3 1 2 ++ (stop_rows ++ (vehicle_bytes 0 ++ f64s (0 ∷ f10 ∷ f10 ∷ f10 ∷ 0 ∷ 0x7ff8_0000_0000_0000 ∷ f10 ∷ f4 ∷ 0 ∷ []))); room = 256; answer = 6 }
    -- "depot 1 of 1"
    ∷ record { sheet = sheet_header 3 1 2 ++ (stop_rows ++ (vehicle_bytes 1 ++ table_bytes)); room = 256; answer = 7 }
    -- "method 1, 0 vehicles"; methods 2 and 3 need none
    ∷ record { sheet = sheet_header 3 0 1 ++ (stop_rows ++ table_bytes); room = 256; answer = 8 }
    ∷ record { sheet = sheet_header 3 0 0 ++ (stop_rows ++ table_bytes); room = 256; answer = 8 }
    ∷ record { sheet = sheet_header 3 0 4 ++ (stop_rows ++ table_bytes); room = 256; answer = 8 }
    ∷ record { sheet = sheet_a 4; room = 256; answer = 0 }
    ∷ record { sheet = sheet_header 3 0 2 ++ (stop_rows ++ table_bytes); room = 256; answer = 0 }
    -- no row is one depot
    ∷ record { sheet = sheet_header 0 1 2 ++ vehicle_bytes 0; room = 16; answer = 0 }
    ∷ record { sheet = sheet_header 0 1 2 ++ vehicle_bytes 1; room = 16; answer = 7 }
    ∷ []
