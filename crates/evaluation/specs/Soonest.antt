-- What a walk with a clock is asked for where a rest at home will do as well: of the two schedules the one that ends sooner. No promise reaches this. That the limits are kept by
-- one of the two exactly if they are by the sooner is proved (proofs/Soonest.antt).
use Rattle.std.specs.Prelude.{ℕ, ◌+◌, Bool, true, not, ◌&&◌, cond, List, length, Float, Option, Some, None}
use Rattle.std.specs.Float.Ieee.{le}
use Rattle.sheet.specs.declared.vehicle.VehicleBreak.{VehicleBreak}
use Rattle.evaluation_clock.specs.Sums.{◌⊕◌}
use Rattle.evaluation.specs.Walk.{scheduled_of}
use Rattle.evaluation.specs.Verdict.{home_start, rested_home}
use Rattle.evaluation_clock.specs.declared.clock.Schedule.{Schedule}

-- whether an end that is a number comes before the schedule's, where there is one
unfoldable pub outlasts : Option Schedule → Float → Bool
outlasts (Some k) end = not (le k.duration end) && le end end
outlasts None end = true

-- the schedule x, or the one without a rest with it at home
unfoldable pub sooner_of : VehicleBreak → ℕ → Option Schedule → Option Schedule → Option Schedule
sooner_of b place None x = x
sooner_of b place (Some k) x = cond (le (home_start b k.duration) b.latest && outlasts x (home_start b k.duration ⊕ b.duration)) (Some (rested_home b place k)) x

-- of a round, with the rest at home where `home` says so
abbrev pub soonest_of : Bool → List ℕ → ℕ → VehicleBreak → List ℕ → Option Schedule
soonest_of home s depot b route =
    cond home
    (sooner_of b (1 + length route) (scheduled_of s depot None route) (scheduled_of s depot (Some b) route))
    (scheduled_of s depot (Some b) route)
