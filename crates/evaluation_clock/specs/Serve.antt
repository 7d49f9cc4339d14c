-- docs/SCOPE.md#the-walk-of-a-round. One stop of a walk, operation by operation as the Rust's `serve`.
use Rattle.std.specs.Prelude.{ℕ, cond, Float, Option, Some, None}
use Rattle.std.specs.Float.Ieee.{lt}
use Rattle.sheet.specs.Values.{nought}
use Rattle.sheet.specs.declared.customer.Window.{Window}
use Rattle.sheet.specs.declared.customer.Gate.{Gate}
use Rattle.sheet.specs.declared.customer.Gate.TheVariants.{Open, Hard, Soft}
use Rattle.sheet.specs.declared.customer.Stop.{Stop}
use Rattle.sheet.specs.declared.vehicle.VehicleBreak.{VehicleBreak}
use Rattle.evaluation_clock.specs.RestAnswer.{RestAnswer}
use Rattle.evaluation_clock.specs.declared.label.Label.{Label}
use Rattle.evaluation_clock.specs.Sums.{◌⊕◌, ◌⊗◌}
use Rattle.evaluation_clock.specs.Window.{violated_of, waiting_of, lateness_of}

-- "an answer that is either none or a place with its start time": the plan's rest place, "1 is before the first stop, 0 is none"
abbrev pub rest_place : RestAnswer → ℕ
rest_place None = 0
rest_place (Some (place, start)) = place

-- the plan's rest start: "Unused bytes are zero", so +0.0 for none
abbrev pub rest_start : RestAnswer → Float
rest_start None = nought
rest_start (Some (place, start)) = start

-- "It leaves the vehicle's depot at 0."
abbrev pub at_depot : Label
at_depot = record { time = nought; lateness = nought; lateness_cost = nought; rest = None }

-- the label once it leaves the stop
abbrev pub leaving_at : Label → Float → Label
leaving_at l time = record { time = time; lateness = l.lateness; lateness_cost = l.lateness_cost; rest = l.rest }

-- with an arrival late by that much counted, at that penalty for each unit of time
abbrev pub late_by : Label → Float → Float → Label
late_by l penalty late = record {
  time = l.time;
  lateness = l.lateness ⊕ late;
  lateness_cost = l.lateness_cost ⊕ penalty ⊗ late;
  rest = l.rest;
}

-- with the rest taken before the stop counted so
abbrev pub rested_at : Label → ℕ → Float → Label
rested_at l place start = record { time = l.time; lateness = l.lateness; lateness_cost = l.lateness_cost; rest = Some (place, start) }

-- "Departure is the later of arrival and ready, plus service", in the Rust's operations: arrival, plus the wait, plus service
abbrev pub departure_of : Window → Float → Float → Float
departure_of w arrival service = arrival ⊕ waiting_of w arrival ⊕ service

-- "Arrival after a window's due fails", where the window is hard; with a penalty it costs
unfoldable pub pass : Label → Float → Float → Gate → Option Label
pass l arrival service Open = Some (leaving_at l (arrival ⊕ service))
pass l arrival service (Hard w) = cond (violated_of w arrival) None (Some (leaving_at l (departure_of w arrival service)))
pass l arrival service (Soft w penalty) =
    cond (violated_of w arrival)
    (Some (leaving_at (late_by l penalty (lateness_of w arrival)) (departure_of w arrival service)))
    (Some (leaving_at l (departure_of w arrival service)))

-- the wait and the service of a stop, for a vehicle that is there at `arrival`
abbrev pub visit_of : Label → Float → Stop → Option Label
visit_of l arrival s = pass l arrival s.service s.gate

-- "it starts at the later of arrival and earliest": the Rust's `max`, where neither is a NaN or -0
abbrev pub later_of : Float → Float → Float
later_of x y = cond (lt x y) y x

-- "Arrival is the last departure plus the time of the leg."
unfoldable pub serve_of : Label → Float → Stop → Option Label
serve_of l travel s = visit_of l (l.time ⊕ travel) s

-- "start > latest is refused, start = latest is not", "and its end then counts as arrival"
abbrev pub rest_from : Label → Stop → ℕ → VehicleBreak → Float → Option Label
rest_from l s place b start = cond (lt b.latest start) None (visit_of (rested_at l place start) (start ⊕ b.duration) s)

-- "a rest stands before a stop, starting at the later of arrival and earliest"
unfoldable pub serve_rested : Label → Float → Stop → ℕ → VehicleBreak → Option Label
serve_rested l travel s place b = rest_from l s place b (later_of (l.time ⊕ travel) b.earliest)
