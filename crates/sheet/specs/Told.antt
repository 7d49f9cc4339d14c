-- docs/SCOPE.md#refusals. Document 01, "Turned back": "Tested in this order (..). The number is the whole answer."
use Rattle.std.specs.Prelude.{ℕ, Result, Ok, Err}
use Rattle.sheet.specs.declared.refusal.Refusal.{Refusal}
use Rattle.sheet.specs.declared.refusal.Refusal.TheVariants.{Header, Counts, Method, Lengths, Rows, Entries, Vehicles, Fleet, Depots, Plan, Text, TextRows, Rates, Crews}

-- The conditions are definitions of their own (Refusal, and `plan_door`, `solomon_import` and `tariff_bill`).
abbrev pub number_of : Refusal → ℕ
-- "sheet under 16 bytes, time byte above 1, or spare header byte set"
number_of Header = 1
-- "rows or vehicles above range"
number_of Counts = 2
-- "method above 4"
number_of Method = 3
-- "sheet or a plan buffer not of its exact length"
number_of Lengths = 4
-- "row field or mark out of range, or an unmarked field not zero"
number_of Rows = 5
-- "distance or time out of range"
number_of Entries = 6
-- "vehicle field, mark or depot out of range, unmarked field not zero, or repeated id"
number_of Vehicles = 7
-- "no vehicle, methods 0, 1, 4"
number_of Fleet = 8
-- "limiter with several depots"
number_of Depots = 9
-- "limiter's plan: over `rows` rounds, unknown id, a link to no stop, or a stop not exactly once in all chains"
number_of Plan = 10
-- document 02: "11 for text that is not this form"
number_of Text = 11
-- document 02: "12 for more than 100 customers after the depot row"
number_of TextRows = 12
-- document 02: "13 for a rate or least charge above 1,000,000"
number_of Rates = 13
-- document 02: "14 for a crew count of 0 or above 8"
number_of Crews = 14

-- what a result tells: the number of its refusal, and 0 where nothing is refused
abbrev pub told : {A : Type 0} → Result A Refusal → ℕ
told (Ok x) = 0
told (Err refusal) = number_of refusal
