-- What it is that figures in f64 are exactly those of the walk over natural numbers.
use Rattle.std.specs.Prelude.{◌≡◌, ℕ, zero, suc, ◌+◌, ◌-◌, ◌≤◌, false, cond, List, [], ◌∷◌, T, eqb, length}
use Rattle.std.specs.Float.{binary64}
use Rattle.std.specs.Float.Ieee.{fits}
use Rattle.evaluation_clock.specs.Serve.{rest_place, rest_start}
use Rattle.evaluation_clock.specs.declared.clock.Schedule.{Schedule}
use Rattle.evaluation_clock.specs.RestAnswer.{RestAnswer}
use Rattle.evaluator.specs.declared.Placed.{Placed}
use Rattle.evaluator.specs.declared.Progress.{Progress}
use Rattle.evaluator.specs.Record.{visited_of}
use Rattle.lawful.specs.Whole.{Is}
use Rattle.lawful.specs.Lawful.{Walk, failed, left, time_n, home_of, earliest_n, stop_n, duration_n, travel_n, later, rested_at_home}

-- "it starts at the later of arrival and earliest": a rest between a departure and the stop at row i
abbrev pub start_after : List ℕ → ℕ → ℕ → ℕ → Walk → ℕ
start_after s v prev i failed = 0
start_after s v prev i (left time) = later (time + time_n s prev i) (earliest_n s v)

-- of the walk with the rest before the stop at `place`, counted from 1, or at home: "The rest place is the number of stops plus one."
unfoldable pub rest_start_n : List ℕ → ℕ → ℕ → Walk → ℕ → List ℕ → ℕ
rest_start_n s v zero w prev is = 0
rest_start_n s v (suc zero) w prev [] = start_after s v prev (home_of s v) w
rest_start_n s v (suc zero) w prev (i ∷ is) = start_after s v prev i w
rest_start_n s v (suc (suc n)) w prev [] = 0
rest_start_n s v (suc (suc n)) w prev (i ∷ is) = rest_start_n s v (suc n) (stop_n false s v prev i w) i is

-- and its duration; 0 is no rest
abbrev pub duration_with : List ℕ → ℕ → ℕ → List ℕ → Walk
duration_with s v place is = cond (eqb place (suc (length is))) (rested_at_home s v (duration_n s v 0 is)) (duration_n s v place is)

-- what the rest of a schedule says; the f64 is one that bits stand for, so that writing it loses nothing
pub record RestExact (s : List ℕ) (v : ℕ) (is : List ℕ) (r : RestAnswer) : Type 0 where
  pub start : Is (rest_start_n s v (rest_place r) (left 0) (home_of s v) is) (rest_start r)
  pub written : T (fits binary64 (rest_start r))

-- a schedule of a vehicle's round: the walk with the rest where the schedule has it does not fail, and its sums are the schedule's
pub record FiguresExact (s : List ℕ) (v : ℕ) (is : List ℕ) (k : Schedule) : Type 0 where
  pub place : rest_place k.rest ≤ suc (length is)
  pub time : ℕ
  pub walk : duration_with s v (rest_place k.rest) is ≡ left time
  pub duration : Is time k.duration
  pub distance : Is (travel_n s v (home_of s v) is) k.distance
  pub rest : RestExact s v is k.rest

-- a stop's arrival and departure in a record, between the departure before it and its own
pub record VisitExact (leg : ℕ) (w u : Walk) (q : Progress) : Type 0 where
  pub from : ℕ
  pub at : w ≡ left from
  pub arrival : Is (from + leg) q.arrival
  pub to : ℕ
  pub on : u ≡ left to
  pub departure : Is to q.departure

-- the stops left, as `walk_n` goes over them
unfoldable pub VisitsExact : List ℕ → ℕ → Placed → Progress → ℕ → Walk → List ℕ → Type 0
VisitsExact s v t p place w [] = Unit
VisitsExact s v t p place w (i ∷ is) =
    VisitExact (time_n s p.prev i) w (stop_n (eqb place 1) s v p.prev i w) (visited_of s t p i)
    × VisitsExact s v t (visited_of s t p i) (place - 1) (stop_n (eqb place 1) s v p.prev i w) is
