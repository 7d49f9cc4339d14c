-- How many rounds a vehicle may drive.
use Rattle.std.specs.Prelude.{Bool, true, false, ◌&&◌, cond, List, ℕ, zero, suc, ◌+◌, ◌/◌, length, take, drop}
use Rattle.sheet.specs.Fields.{rows_of}
use Rattle.sheet.specs.Values.{vehicle_of}
use Rattle.evaluation.specs.declared.limits.RouteLimits.{RouteLimits}
use Rattle.evaluation.specs.Limits.{limits_at}
use Rattle.evaluation.specs.Feasible.{route_feasible}
use Rattle.probe.specs.Promises.{askable, rounds_right}

abbrev pub one_of : Bool → ℕ
one_of true = 1
one_of false = 0

-- how many of the next n rounds of `len` rows are feasible, from the row at index `first` on
unfoldable pub passed_from : List ℕ → ℕ → RouteLimits → List ℕ → ℕ → ℕ → ℕ → ℕ
passed_from s depot limits stops len zero first = 0
passed_from s depot limits stops len (suc n) first =
    one_of (route_feasible s depot limits (take len (drop first stops))) + passed_from s depot limits stops len n (first + len)

unfoldable pub passed_of : List ℕ → ℕ → RouteLimits → List ℕ → ℕ → ℕ
passed_of s depot limits stops len = passed_from s depot limits stops len (length stops / len) 0

-- the answer to a question that is not right
abbrev pub not_asked : ℕ
not_asked = 0xffff_ffff

unfoldable pub probe_rounds : List ℕ → List ℕ → ℕ → ℕ → ℕ
probe_rounds s stops len v =
    cond (askable s v && rounds_right stops len (rows_of s))
    (passed_of s (vehicle_of s v).depot (limits_at s v) stops len)
    not_asked
