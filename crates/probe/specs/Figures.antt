-- The figures of a round, by their numbers.
use Rattle.std.specs.Prelude.{◌&&◌, cond, List, [], ◌∷◌, ℕ, ◌+◌, ◌-◌, ◌/◌, ◌%◌, ltb, pos, length, get_or, take, Float, Option, Some, None}
use Rattle.std.specs.Float.{nan, binary64}
use Rattle.std.specs.Float.Ieee.{of_bits, of_int}
use Rattle.sheet.specs.Fields.{rows_of}
use Rattle.sheet.specs.Values.{vehicle_of}
use Rattle.evaluation_clock.specs.declared.clock.Schedule.{Schedule}
use Rattle.evaluation_clock.specs.RestAnswer.{RestAnswer}
use Rattle.evaluation.specs.declared.limits.RouteLimits.{RouteLimits}
use Rattle.evaluation_clock.specs.Serve.{rest_place, rest_start}
use Rattle.evaluation.specs.Limits.{limits_at}
use Rattle.evaluation.specs.Feasible.{route_eval}
use Rattle.evaluator.specs.declared.Progress.{Progress}
use Rattle.evaluator.specs.declared.Record.{Record}
use Rattle.evaluator.specs.Record.{placed_of, begin_of, progress_of, build_route}
use Rattle.probe.specs.Promises.{askable, round_right}

-- -1.0 where a round is not allowed, -2.0 where the question is not right: no figure is below 0
abbrev pub not_allowed : Float
not_allowed = of_bits binary64 0xbff0_0000_0000_0000

abbrev pub not_right : Float
not_right = of_bits binary64 0xc000_0000_0000_0000

-- a number below 2^53, which an f64 holds
abbrev pub whole_figure : ℕ → Float
whole_figure n = of_int binary64 (pos n)

-- 0 to 5: distance, duration, lateness, its cost, the rest's place and its start
abbrev pub six_of : Float → Float → Float → Float → RestAnswer → List Float
six_of distance duration lateness cost rest = distance ∷ duration ∷ lateness ∷ cost ∷ whole_figure (rest_place rest) ∷ rest_start rest ∷ []

abbrev pub schedule_figures : Schedule → List Float
schedule_figures k = six_of k.distance k.duration k.lateness k.lateness_cost k.rest

unfoldable pub eval_figure : Option Schedule → ℕ → Float
eval_figure (Some k) n = get_or (schedule_figures k) n nan
eval_figure None n = not_allowed

-- 0 to 5 likewise, then the load
abbrev pub record_figures : Record → List Float
record_figures k = six_of k.distance k.duration k.lateness k.lateness_cost k.rest

unfoldable pub record_figure : Record → ℕ → Float
record_figure k n = cond (ltb n 6) (get_or (record_figures k) n nan) (whole_figure k.load)

-- 0 to 2: arrival, departure and load after
abbrev pub visit_figure : Progress → ℕ → Float
visit_figure p n = get_or (p.arrival ∷ p.departure ∷ whole_figure p.load ∷ []) n nan

-- the round as far as the stop at index k
unfoldable pub progress_at : List ℕ → ℕ → RouteLimits → List ℕ → ℕ → Progress
progress_at s depot limits route k = progress_of s (placed_of s depot limits route) (begin_of depot) (take (k + 1) route)

-- three figures a stop
unfoldable pub visit_figures : List ℕ → ℕ → RouteLimits → List ℕ → ℕ → Float
visit_figures s depot limits route n = cond (ltb (n / 3) (length route)) (visit_figure (progress_at s depot limits route (n / 3)) (n % 3)) not_right

-- `route_eval`'s from 0 on, `build_route`'s from 6 on, its stops' from 13 on
unfoldable pub figure_of : List ℕ → ℕ → RouteLimits → List ℕ → ℕ → Float
figure_of s depot limits route n =
    cond (ltb n 6) (eval_figure (route_eval s depot limits route) n)
    (cond (ltb n 13) (record_figure (build_route s depot limits route) (n - 6))
    (visit_figures s depot limits route (n - 13)))

unfoldable pub probe_figure : List ℕ → List ℕ → ℕ → ℕ → Float
probe_figure s route v n =
    cond (askable s v && round_right route (rows_of s))
    (figure_of s (vehicle_of s v).depot (limits_at s v) route n)
    not_right
