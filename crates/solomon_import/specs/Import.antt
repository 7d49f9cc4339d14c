-- docs/SCOPE.md#the-importer. Document 02, Three: what the importer answers a text with. Number and bytes are read from the text and the buffer alone.
use Rattle.std.specs.Prelude.{◌≡◌, ℕ, zero, suc, ◌+◌, ◌-◌, ◌*◌, ◌^◌, ◌<◌, Bool, true, ◌&&◌, List, [], ◌∷◌, leb, ℤ, pos, negsuc, nat_abs, ◌-ℤ◌, length, get_or, take, Float, Result, Ok, Err}
use Rattle.wire.specs.Bytes.{write}
use Rattle.numbers.specs.Range.{whole}
use Rattle.solomon_text.specs.Numbers.{is_up_to}
use Rattle.sheet.specs.Fields.{header_size, row_size, vehicle_size, most_rows, plan_length}
use Rattle.sheet.specs.Ranges.{coordinate, demand}
use Rattle.sheet.specs.declared.refusal.Refusal.{Refusal}
use Rattle.sheet.specs.Told.{number_of}
use Rattle.sheet.specs.Refusal.{unless, refusal_of}
use Rattle.sheet_writer.specs.Sheet.{SheetFields, sheet_bytes}
use Rattle.sheet_writer.specs.declared.RowFields.{RowFields}
use Rattle.sheet_writer.specs.declared.VehicleFields.{VehicleFields}
use Rattle.solomon_distances.specs.Distances.{square}
use Rattle.square_root.specs.ClosestRoot.{ClosestRoot}
use Rattle.solomon_import.specs.Instance.{Customer, form_right, customers_of, capacity_of}

-- ---- the refusals
-- "Numbers of any length outside the sheet's ranges are refused by the sheet's own rules"; "0 to 10^9"
abbrev pub amount_range : ℤ → Bool
amount_range z = is_up_to (10 ^ 9) z

-- "ready ≤ due (..) 0 to 10^9"
unfoldable pub window_range : ℤ → ℤ → Bool
window_range ready due = amount_range ready && (amount_range due && leb (nat_abs ready) (nat_abs due))

-- 5: "row field or mark out of range"
unfoldable pub customer_range : Customer → Bool
customer_range c =
    coordinate c.x
    && (coordinate c.y
    && (demand c.demand
    && (window_range c.ready c.due
    && amount_range c.service)))

unfoldable pub customers_range : List Customer → Bool
customers_range [] = true
customers_range (c ∷ cs) = customer_range c && customers_range cs

-- 7: "capacity from 0", and no more than its field holds
abbrev pub capacity_range : ℤ → Bool
capacity_range z = is_up_to 0x7fff_ffff z

-- how long the sheet of n rows and one vehicle is
unfoldable pub import_length : ℕ → ℕ
import_length n = header_size + row_size * n + vehicle_size + 8 * (n * n)

-- "Refused: 11 for text that is not this form; 12 for more than 100 customers after the depot row; both before the sheet's own checks, 11 first. A buffer shorter than the sheet is a 4, last"
unfoldable pub import_refusal : List ℕ → ℕ → ℕ
import_refusal text room =
    unless (form_right text) 11
    (unless (leb (length (customers_of text)) most_rows) 12
    (unless (customers_range (customers_of text)) 5
    (unless (capacity_range (capacity_of text)) 7
    (unless (leb (import_length (length (customers_of text))) room) 4 0))))

-- ---- the sheet
-- an amount as an f64
abbrev pub whole_of : ℤ → Float
whole_of z = whole (nat_abs z)

-- a customer's row, without a penalty
unfoldable pub row_fields_of : ℕ → Customer → RowFields
row_fields_of marks c = record {
  x = c.x;
  y = c.y;
  demand = c.demand;
  marks = marks;
  service = whole_of c.service;
  ready = whole_of c.ready;
  due = whole_of c.due;
  penalty = whole 0;
}

-- "row marks 3 and then 2"
abbrev pub marks_at : ℕ → ℕ
marks_at zero = 3
marks_at (suc i) = 2

-- the rows from row i on
unfoldable pub rows_fields_from : ℕ → List Customer → List RowFields
rows_fields_from i [] = []
rows_fields_from i (c ∷ cs) = row_fields_of (marks_at i) c ∷ rows_fields_from (i + 1) cs

-- "one vehicle with that capacity, cost 1 and all else 0"
unfoldable pub vehicle_fields_of : ℤ → VehicleFields
vehicle_fields_of capacity = record {
  id = 0;
  depot = 0;
  capacity = capacity;
  marks = 0;
  cost_per_distance = whole 1;
  fixed_cost = whole 0;
  max_distance = whole 0;
  max_duration = whole 0;
  earliest = whole 0;
  latest = whole 0;
  rest_duration = whole 0;
}

-- "It writes method 1"
unfoldable pub import_fields : List ℕ → List Float → SheetFields
import_fields text distances = record {
  method = 1;
  times = 0;
  rows = rows_fields_from 0 (customers_of text);
  vehicles = vehicle_fields_of (capacity_of text) ∷ [];
  entries = distances;
}

-- ---- its distances
-- "the whole squared distance"
unfoldable pub squared_distance : Customer → Customer → ℕ
squared_distance a b = square (nat_abs (a.x -ℤ b.x)) + square (nat_abs (a.y -ℤ b.y))

-- the customer counted i from 0; one of zeros where there is none
abbrev pub no_customer : Customer
no_customer = record { x = pos 0; y = pos 0; demand = pos 0; ready = pos 0; due = pos 0; service = pos 0 }

abbrev pub customer_at : List Customer → ℕ → Customer
customer_at cs i = get_or cs i no_customer

-- "Distances are the square root of the whole squared distance, rounded correctly to f64": row by row
pub record DistancesOf (cs : List Customer) (table : List Float) : Type 0 where
  pub long : length table ≡ length cs * length cs
  pub closest : (i j : ℕ) → i < length cs → j < length cs → ClosestRoot (squared_distance (customer_at cs i) (customer_at cs j)) (get_or table (i * length cs + j) (whole 0))

-- ---- the answer
-- the sheet stands at the buffer's start, and "later bytes stay"
pub record SheetWritten (text lent out : List ℕ) : Type 0 where
  pub distances : List Float
  pub closest : DistancesOf (customers_of text) distances
  pub bytes : out ≡ write lent 0 (sheet_bytes (import_fields text distances))

-- the number that is returned for refusal n, and for none: "the length is returned"
abbrev pub import_number : ℕ → ℕ → ℤ
import_number zero long = pos long
import_number (suc n) long = negsuc n

-- the number for a result
abbrev pub import_answer : Result ℕ Refusal → ℤ
import_answer (Ok long) = pos long
import_answer (Err refusal) = negsuc (number_of refusal - 1)

-- the bytes after it: "A refused call writes no lent byte."
abbrev pub ImportBytes : ℕ → List ℕ → List ℕ → List ℕ → Type 0
ImportBytes zero text lent out = SheetWritten text lent out
ImportBytes (suc n) text lent out = out ≡ lent

-- **answer**: number and bytes are the definition's, for every text and buffer
pub record ImportAnswered (text lent : List ℕ) (r : ℤ) (out : List ℕ) : Type 0 where
  pub number : r ≡ import_number (import_refusal text (length lent)) (import_length (length (customers_of text)))
  pub bytes : ImportBytes (import_refusal text (length lent)) text lent out

-- **accepted**: what the importer returns, the planner plans
abbrev pub ImportAccepted : ℤ → List ℕ → Type 0
ImportAccepted r out = (n : ℕ) → r ≡ pos n → refusal_of (take n out) (plan_length (take n out)) ≡ 0
