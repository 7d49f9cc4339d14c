-- What is listed, and what the reader's tests say of it.
use Rattle.std.specs.Prelude.{ℕ, ◌≤◌, List, ◌&&◌, T, leb, length}
use Rattle.std.proofs.Math.Dec.{leb→le}
use Rattle.std.specs.Float.Ieee.Fits.{and_l, and_r}
use Rattle.plan.specs.Laws.RoundTrip.{aside_stops as off_stops}
use Rattle.lists.specs.Once.{Stops}
use Rattle.lists.specs.Laws.Once.{distinct_few}
use Rattle.sheet.specs.Fields.{rows_of}
use Rattle.constructive.specs.Outcome.{stops_of}
use Rattle.constructive.specs.Right.{ids_known, links_right, each_once, outcome_right}
use Rattle.constructive.specs.Laws.Right.{stops_right, distinct_right}
use Rattle.plan.specs.Read.{rounds_at, read_plan, plan_right}
use Rattle.listing_text.specs.Listable.{Listable}

module _ (s plan : List ℕ) (ok : Listable s plan) where
  pub few_rounds : rounds_at plan ≤ rows_of s
  unfolding plan_right
  few_rounds = leb→le (rounds_at plan) (rows_of s) (and_l (leb (rounds_at plan) (rows_of s)) (outcome_right s (read_plan s plan)) ok.right)

  outcome_right_lem : T (outcome_right s (read_plan s plan))
  unfolding plan_right
  outcome_right_lem = and_r (leb (rounds_at plan) (rows_of s)) (outcome_right s (read_plan s plan)) ok.right

  abbrev stopped : List ℕ
  stopped = stops_of (read_plan s plan)

  stops_once : T (links_right s stopped && each_once s stopped)
  unfolding outcome_right
  stops_once = and_r (ids_known s (read_plan s plan).rounds) (links_right s stopped && each_once s stopped) outcome_right_lem

  pub stops : Stops (rows_of s) stopped
  stops = stops_right s stopped (and_l (links_right s stopped) (each_once s stopped) stops_once)

  pub aside_stops : Stops (rows_of s) (read_plan s plan).aside
  aside_stops = off_stops (rows_of s) (read_plan s plan).rounds (read_plan s plan).aside stops

  pub few_stops : length stopped ≤ rows_of s
  few_stops = distinct_few (rows_of s) stopped stops (distinct_right s stopped (and_l (links_right s stopped) (each_once s stopped) stops_once) (and_r (links_right s stopped) (each_once s stopped) stops_once))
