-- A saving over natural numbers, and what it is that a plan's bytes state exactly the sums of the walk over them.
use Rattle.std.specs.Prelude.{◌≡◌, ℕ, ◌+◌, List}
use Rattle.wire.specs.Bytes.{u16_at, u32_at, f64_at}
use Rattle.lawful.specs.Whole.{Is}
use Rattle.lawful.specs.Lawful.{left, distance_n, home_of, travel_n, load_n}
use Rattle.lawful.specs.Figures.{duration_with, rest_start_n}
use Rattle.constructive.specs.declared.terms.Terms.{Terms}
use Rattle.constructive.specs.Outcome.{Round}
use Rattle.plan.specs.Plan.{round_record_at}

-- what is saved where the leg from i to j is driven, before that leg is taken off: the way home, the way out, and f for a vehicle
abbrev pub saved_n : List ℕ → Terms → ℕ → ℕ → ℕ → ℕ
saved_n s t f i j = distance_n s i t.depot + distance_n s t.depot j + f

-- the record counted n, from 0, of a round: its load, distance, rest place, duration and rest start
pub record RoundExact (s plan : List ℕ) (n : ℕ) (r : Round) : Type 0 where
  pub load : u32_at plan (round_record_at n + 4) ≡ load_n s r.stops
  pub distance : Is (travel_n s r.vehicle (home_of s r.vehicle) r.stops) (f64_at plan (round_record_at n + 16))
  pub time : ℕ
  pub walk : duration_with s r.vehicle (u16_at plan (round_record_at n + 10)) r.stops ≡ left time
  pub duration : Is time (f64_at plan (round_record_at n + 24))
  pub start : Is (rest_start_n s r.vehicle (u16_at plan (round_record_at n + 10)) (left 0) (home_of s r.vehicle) r.stops) (f64_at plan (round_record_at n + 48))
