-- docs/SCOPE.md#the-plan. Document 01, "The plan": its bytes, from a sheet and an outcome. All bytes are zero, then each record is written at its place.
use Rattle.std.specs.Prelude.{ℕ, ◌+◌, ◌*◌, Bool, true, false, List, [], ◌∷◌, ◌++◌, length, replicate, Float}
use Rattle.std.specs.Float.{binary64}
use Rattle.std.specs.Float.Ieee.{to_bits}
use Rattle.wire.specs.Bytes.{bytes, write}
use Rattle.sheet.specs.Fields.{rows_of, plan_length}
use Rattle.sheet.specs.Values.{nought, vehicle_of}
use Rattle.sheet.specs.declared.vehicle.Vehicle.{Vehicle}
use Rattle.evaluation_clock.specs.Serve.{rest_place, rest_start}
use Rattle.evaluation.specs.Limits.{limits_at}
use Rattle.evaluation.specs.declared.limits.RouteLimits.{RouteLimits}
use Rattle.evaluator.specs.Record.{placed_of, begin_of, visited_of, build_route, price_start, price_with}
use Rattle.evaluator.specs.declared.Progress.{Progress}
use Rattle.evaluator.specs.declared.Placed.{Placed}
use Rattle.evaluator.specs.declared.Record.{Record}
use Rattle.constructive.specs.Outcome.{Round, Outcome}

abbrev pub f64 : Float → List ℕ
f64 x = bytes 8 (to_bits binary64 x)

-- "zero ends a chain": the first of a chain
abbrev pub first_of : List ℕ → ℕ
first_of [] = 0
first_of (row ∷ rows) = row

-- ---- where the records stand
-- "Then `rows` round records of 56 bytes": the k-th, from 0
-- (that k is below the sheet's rows is a clause: a number of a round is no row)
abbrev pub round_record_at : ℕ → ℕ
round_record_at k = 16 + 56 * k

-- "Then one 24-byte record per row"
abbrev pub row_record_at : ℕ → ℕ → ℕ
row_record_at n row = 16 + 56 * n + 24 * row

-- ---- the records
-- "next u16, zero u16, load after i32, f64 arrival and departure"
unfoldable pub visit_bytes : ℕ → Progress → List ℕ
visit_bytes next p = bytes 2 next ++ (bytes 2 0 ++ (bytes 4 p.load ++ (f64 p.arrival ++ f64 p.departure)))

-- "Set-aside stops hold only next."
unfoldable pub aside_bytes : ℕ → List ℕ
aside_bytes next = bytes 2 next

-- "vehicle id u32, load i32, first stop u16, rest place u16 (..), zero u32, then f64 distance, duration, lateness, lateness cost, rest start"
unfoldable pub round_counts : ℕ → ℕ → Record → List ℕ
round_counts id start r = bytes 4 id ++ (bytes 4 r.load ++ (bytes 2 start ++ (bytes 2 (rest_place r.rest) ++ bytes 4 0)))

unfoldable pub round_figures : Record → List ℕ
round_figures r = f64 r.distance ++ (f64 r.duration ++ (f64 r.lateness ++ (f64 r.lateness_cost ++ f64 (rest_start r.rest))))

unfoldable pub round_bytes : ℕ → ℕ → Record → List ℕ
round_bytes id start r = round_counts id start r ++ round_figures r

-- "Header: rounds u16, first set-aside stop u16, rows u16, zero u16, cost f64."
unfoldable pub header_bytes : ℕ → ℕ → ℕ → Float → List ℕ
header_bytes rounds aside rows cost = bytes 2 rounds ++ (bytes 2 aside ++ (bytes 2 rows ++ (bytes 2 0 ++ f64 cost)))

-- ---- the plan
-- "Stops are chained by next": the visits of a round's stops left
unfoldable pub with_visits : List ℕ → Placed → Progress → List ℕ → List ℕ → List ℕ
with_visits s t p [] plan = plan
with_visits s t p (row ∷ rows) plan =
    let q = visited_of s t p row in
    with_visits s t q rows (write plan (row_record_at (rows_of s) row) (visit_bytes (first_of rows) q))

-- a round counted k, from 0, with its vehicle and its limits: its stops, then its record
unfoldable pub with_round : List ℕ → ℕ → Vehicle → RouteLimits → List ℕ → List ℕ → List ℕ
with_round s k v limits stops plan =
    let t = placed_of s v.depot limits stops in
    write (with_visits s t (begin_of v.depot) stops plan) (round_record_at k) (round_bytes v.id (first_of stops) (build_route s v.depot limits stops))

unfoldable pub with_rounds : List ℕ → ℕ → List Round → List ℕ → List ℕ
with_rounds s k [] plan = plan
with_rounds s k (r ∷ rs) plan = with_rounds s (k + 1) rs (with_round s k (vehicle_of s r.vehicle) (limits_at s r.vehicle) r.stops plan)

-- "the set-aside chain too"
unfoldable pub with_aside : List ℕ → List ℕ → List ℕ → List ℕ
with_aside s [] plan = plan
with_aside s (row ∷ rows) plan = with_aside s rows (write plan (row_record_at (rows_of s) row) (aside_bytes (first_of rows)))

-- `price`: a round more, of the vehicle at index v
unfoldable pub price_after : List ℕ → Float → ℕ → List ℕ → Float
price_after s total v stops =
    let vehicle = vehicle_of s v in
    price_with total vehicle (build_route s vehicle.depot (limits_at s v) stops)

-- the rounds' costs, in order
unfoldable pub price_of : List ℕ → Float → List Round → Float
price_of s total [] = total
price_of s total (r ∷ rs) = price_of s (price_after s total r.vehicle r.stops) rs

-- where the Rust returns early, nothing is priced and the cost is 0
abbrev pub priced_cost : Bool → Float → Float
priced_cost true price = price
priced_cost false price = nought

-- "Exactly 16 + 80 × rows bytes." "Unused bytes are zero."
abbrev pub blank : List ℕ → List ℕ
blank s = replicate (plan_length s) 0

-- the plan of an outcome that costs `cost`
unfoldable pub plan_bytes : List ℕ → Outcome → Float → List ℕ
plan_bytes s o cost =
    write (with_aside s o.aside (with_rounds s 0 o.rounds (blank s))) 0
    (header_bytes (length o.rounds) (first_of o.aside) (rows_of s) cost)

-- the plan of an outcome, priced or not
unfoldable pub plan_of : List ℕ → Outcome → Bool → List ℕ
plan_of s o priced = plan_bytes s o (priced_cost priced (price_of s price_start o.rounds))
