-- docs/SCOPE.md#the-three-demands. The sheets of demand 3: no row has both a window and a lateness penalty, and distances, times, windows, service and rests are whole numbers.
use Rattle.std.specs.Prelude.{ℕ, ◌*◌, ◌^◌, ◌<◌, Bool, true, false, List, T, pos, negsuc, Float}
use Rattle.std.specs.Float.{nan, inf, fin}
use Rattle.std.specs.Float.Ieee.Exact.{HasValue}
use Rattle.wire.specs.Bytes.{f64_at}
use Rattle.sheet.specs.Fields.{rows_of, vehicles_of, row_at, row_marks, service_at, ready_at, due_at, vehicle_at, earliest_at, latest_at, rest_at, entries_of, entry_at, marked}

-- an f64 is a whole number if it is m * 2 ^ e with e not below 0: a float is kept in lowest terms, so that below 0 its m is odd and leaves a
-- fraction. Laws/Known proves the test right both ways.
abbrev pub is_whole : Float → Bool
is_whole nan = false
is_whole (inf s) = false
is_whole (fin true m e) = false
is_whole (fin false m (pos e)) = true
is_whole (fin false m (negsuc e)) = false

-- the natural number that it then is
abbrev pub nat_of : Float → ℕ
nat_of nan = 0
nat_of (inf s) = 0
nat_of (fin true m e) = 0
nat_of (fin false m (pos e)) = m * 2 ^ e
nat_of (fin false m (negsuc e)) = 0

-- x is the whole number n, with its sign clear
abbrev pub Is : ℕ → Float → Type 0
Is n x = HasValue x false n 1

abbrev pub WholeAt : List ℕ → ℕ → Type 0
WholeAt s at = T (is_whole (f64_at s at))

pub record WholeRow (s : List ℕ) (at : ℕ) : Type 0 where
  pub service : WholeAt s (service_at at)
  pub ready : WholeAt s (ready_at at)
  pub due : WholeAt s (due_at at)
  pub hard : T (marked 2 (row_marks s at)) → T (marked 4 (row_marks s at)) → ⊥

pub record WholeVehicle (s : List ℕ) (at : ℕ) : Type 0 where
  pub earliest : WholeAt s (earliest_at at)
  pub latest : WholeAt s (latest_at at)
  pub resting : WholeAt s (rest_at at)

pub record Whole (s : List ℕ) : Type 0 where
  pub row : (i : ℕ) → i < rows_of s → WholeRow s (row_at i)
  pub vehicle : (v : ℕ) → v < vehicles_of s → WholeVehicle s (vehicle_at s v)
  pub entry : (k : ℕ) → k < entries_of s → WholeAt s (entry_at s k)
