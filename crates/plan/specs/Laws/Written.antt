-- Every figure of every plan of an accepted sheet is a number, so that it can be written. Assumes nothing.
use Rattle.std.specs.Prelude.{◌≡◌, ℕ, suc, ◌+◌, ◌*◌, ◌^◌, ◌≤◌, ◌<◌, length, get_or, Float, Some, None}
use Rattle.std.proofs.Common.{subst, zero-le, suc-le-suc}
use native.Mathlib.Omega.{arith}
use mathlib.Core.List.{List, [], ◌∷◌}
use Rattle.std.specs.Float.Ieee.{is_nan, of_bits}
use Rattle.numbers.specs.Laws.Upto.{Units, no_nan}
use Rattle.sheet.specs.Fields.{rows_of, most_rows}
use Rattle.sheet.specs.Accepted.{Accepted}
use Rattle.sheet.specs.Laws.Finite.{vehicle_bounded}
use Rattle.sheet.specs.Values.{vehicle_of}
use Rattle.evaluation_clock.specs.Serve.{rest_start}
use Rattle.evaluation_clock.specs.RestAnswer.{RestAnswer}
use Rattle.evaluation.specs.Limits.{limits_at}
use Rattle.evaluation.specs.Laws.Limits.{limits_rest}
use Rattle.evaluator.specs.Record.{placed_of, begin_of, visited_of, build_route, price_start}
use Rattle.evaluator.specs.Laws.Finite.{StartBounded, ProgressBounded, RecordBounded, begin_bounded, visited_bounded, placed_bounded, record_bounded, price_bounded, price_first_bounded}
use Rattle.evaluator.specs.declared.Progress.{Progress}
use Rattle.evaluator.specs.declared.Placed.{Placed}
use Rattle.evaluator.specs.declared.Record.{Record}
use Rattle.constructive.specs.Outcome.{Round}
use Rattle.constructive.specs.Tables.{RoundOf, RoundsOf}
use Rattle.plan.specs.Plan.{price_after, price_of}
use Rattle.plan.specs.Writable.{Number, RecordWritable, VisitsWritable, RoundWritable, Writable}

start_number : (k : ℕ) (r : RestAnswer) → StartBounded k r → Number (rest_start r)
unfolding of_bits is_nan
start_number k None u = tt
start_number k (Some (at, start)) u = no_nan (k * 2 ^ 30) start u

record_writable : (k n : ℕ) (r : Record) → RecordBounded k n r → RecordWritable r
record_writable k n r b = record {
  distance = no_nan ((n + 1) * 2 ^ 30) r.distance b.distance;
  duration = no_nan ((k + 4 * n + 1 + 1) * 2 ^ 30) r.duration b.duration;
  lateness = no_nan _ r.lateness b.lateness;
  cost = no_nan _ r.lateness_cost b.cost;
  start = start_number k r.rest b.start;
}

module _ (s : List ℕ) (a : Accepted s) where
  visits_writable : (t : Placed) (start : StartBounded 1024 t.answer) (resting : Units 30 1 t.duration) (route : List ℕ) (p : Progress) (i : ℕ) → i + length route ≤ most_rows → p.prev < rows_of s
      → ((j : ℕ) → j < length route → get_or route j 0 < rows_of s) → ProgressBounded 1024 i p → VisitsWritable s t p route
  unfolding VisitsWritable visited_of
  visits_writable t start resting [] p i few from rows b = tt
  visits_writable t start resting (row ∷ route) p i few from rows b =
      let to = rows 0 (suc-le-suc zero-le) in
      let c = visited_bounded s a 1024 (omega arith) t start resting p i row (omega arith) from to b in (
        record { arrival = no_nan _ (visited_of s t p row).arrival c.arrival; departure = no_nan _ (visited_of s t p row).departure c.departure },
        visits_writable t start resting route (visited_of s t p row) (i + 1) (omega arith) to (λ j h. rows (suc j) (suc-le-suc h)) c,
      )

  round_writable : (r : Round) → RoundOf s r → RoundWritable s (vehicle_of s r.vehicle) (limits_at s r.vehicle) r.stops
  round_writable r o =
      let v = vehicle_of s r.vehicle in
      let rest = (vehicle_bounded s a r.vehicle o.vehicle).rest in
      let q = placed_bounded s v.depot r.stops o.routed (limits_at s r.vehicle) (rw (limits_rest s r.vehicle) rest) in
      record {
        visits = visits_writable (placed_of s v.depot (limits_at s r.vehicle) r.stops) q.0 q.1 r.stops (begin_of v.depot) 0 (omega (arith, o.routed.few)) o.routed.home o.routed.row (begin_bounded 1024 v.depot);
        figures = record_writable 1024 (length r.stops) (build_route s v.depot (limits_at s r.vehicle) r.stops) (record_bounded s v.depot r.stops o.routed (limits_at s r.vehicle) (rw (limits_rest s r.vehicle) rest));
      }

  -- the price of the rounds left
  rounds_priced : (rs : List Round) (total : Float) (n : ℕ) → n + length rs ≤ most_rows → Units 70 (n * 150000) total → RoundsOf s rs → Number (price_of s total rs)
  unfolding price_of price_after RoundsOf
  rounds_priced [] total n few u o = no_nan _ total u
  rounds_priced (r ∷ rs) total n few u o =
      let v = vehicle_of s r.vehicle in
      let b = record_bounded s v.depot r.stops o.0.routed (limits_at s r.vehicle) (rw (limits_rest s r.vehicle) (vehicle_bounded s a r.vehicle o.0.vehicle).rest) in
      rounds_priced rs _ (n + 1) (omega arith)
      (subst (λ (m : ℕ). Units 70 m (price_after s total r.vehicle r.stops)) (count n) (price_bounded v (build_route s v.depot (limits_at s r.vehicle) r.stops) (length r.stops) o.0.routed.few (vehicle_bounded s a r.vehicle o.0.vehicle) b (n * 150000) total (omega arith) u))
      o.1
    where
      count : (m : ℕ) → m * 150000 + 150000 ≡ (m + 1) * 150000
      count m = omega arith

  price_number : (rs : List Round) → length rs ≤ most_rows → RoundsOf s rs → Number (price_of s price_start rs)
  unfolding price_of price_after RoundsOf of_bits is_nan
  price_number [] few o = tt
  price_number (r ∷ rs) few o =
      let v = vehicle_of s r.vehicle in
      let b = record_bounded s v.depot r.stops o.0.routed (limits_at s r.vehicle) (rw (limits_rest s r.vehicle) (vehicle_bounded s a r.vehicle o.0.vehicle).rest) in
      rounds_priced rs _ 1 (omega arith) (price_first_bounded v (build_route s v.depot (limits_at s r.vehicle) r.stops) (length r.stops) o.0.routed.few (vehicle_bounded s a r.vehicle o.0.vehicle) b) o.1

  pub writable : Writable s
  writable = record { round = round_writable; cost = λ rs few o. price_number rs (omega (arith, few, a.sized.rows)) o }
