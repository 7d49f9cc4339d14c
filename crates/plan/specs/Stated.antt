-- A round's record in the plan's bytes, and what its fields state.
use Rattle.std.specs.Prelude.{◌≡◌, ℕ, ◌+◌, List}
use Rattle.wire.specs.Bytes.{u16_at, u32_at, f64_at}
use Rattle.sheet.specs.Values.{vehicle_of}
use Rattle.evaluation_clock.specs.Serve.{rest_place, rest_start}
use Rattle.evaluation.specs.Limits.{limits_at}
use Rattle.evaluator.specs.declared.Record.{Record}
use Rattle.evaluator.specs.Record.{build_route}
use Rattle.constructive.specs.Outcome.{Round}
use Rattle.plan.specs.Plan.{first_of, round_record_at, round_bytes}

abbrev pub built_record : List ℕ → Round → Record
built_record s r = build_route s (vehicle_of s r.vehicle).depot (limits_at s r.vehicle) r.stops

abbrev pub record_bytes : List ℕ → Round → List ℕ
record_bytes s r = round_bytes (vehicle_of s r.vehicle).id (first_of r.stops) (built_record s r)

-- the fields of the record counted n, from 0: "load i32", "rest place u16", "f64 distance, duration", "rest start"
pub record Stated (plan : List ℕ) (n : ℕ) (r : Record) : Type 0 where
  pub load : u32_at plan (round_record_at n + 4) ≡ r.load
  pub place : u16_at plan (round_record_at n + 10) ≡ rest_place r.rest
  pub distance : f64_at plan (round_record_at n + 16) ≡ r.distance
  pub duration : f64_at plan (round_record_at n + 24) ≡ r.duration
  pub start : f64_at plan (round_record_at n + 48) ≡ rest_start r.rest
