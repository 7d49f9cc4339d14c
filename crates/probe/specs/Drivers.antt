-- A vehicle that rounds are asked about.
use Rattle.std.specs.Prelude.{◌≡◌, true, false, List, ℕ, ◌<◌, Option, Some, None}
use Rattle.sheet.specs.Fields.{rows_of, vehicles_of}
use Rattle.sheet.specs.Values.{vehicle_of}
use Rattle.sheet.specs.Accepted.{Accepted}
use Rattle.evaluation.specs.Limits.{limits_at}
use Rattle.probe.specs.declared.asked.Driver.{Driver}
use Rattle.probe.specs.Promises.{askable}

pub record Vehicled (s : List ℕ) (v : ℕ) : Type 0 where
  pub sheet : Accepted s
  pub vehicle : v < vehicles_of s
  pub home : (vehicle_of s v).depot < rows_of s

abbrev pub driver_at : List ℕ → ℕ → Driver
driver_at s v = record { depot = (vehicle_of s v).depot; limits = limits_at s v; rows = rows_of s }

pub record DriverTold (s : List ℕ) (v : ℕ) (d : Driver) : Type 0 where
  pub asked : askable s v ≡ true
  pub right : Vehicled s v
  pub same : d ≡ driver_at s v

-- the vehicle, or none where its rounds cannot be asked about
abbrev pub DriverAsked : List ℕ → ℕ → Option Driver → Type 0
DriverAsked s v None = askable s v ≡ false
DriverAsked s v (Some d) = DriverTold s v d
