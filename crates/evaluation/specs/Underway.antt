-- A vehicle on its way without a rest, for the code that walks on from there.
use Rattle.std.specs.Prelude.{◌≡◌, ℕ, false, Option, Some, None}
use Rattle.sheet.specs.Values.{nought}
use Rattle.evaluation_clock.specs.declared.label.Label.{Label}
use Rattle.evaluation_clock.specs.Clock.{alive_of}
use Rattle.evaluation.specs.declared.schedule.Underway.{Underway}
use Rattle.evaluation.specs.Walk.{Position}

-- "It leaves the vehicle's depot at 0."
abbrev pub setting_out : ℕ → Underway
setting_out depot = record { prev = depot; distance = nought; time = nought; lateness = nought; lateness_cost = nought }

-- its label, with no rest taken
abbrev pub label_by : Underway → Label
label_by w = record { time = w.time; lateness = w.lateness; lateness_cost = w.lateness_cost; rest = None }

-- the position that it is, with its next stop counted so
abbrev pub position_of : Underway → ℕ → Position
position_of w place = record {
  clock = record { rest = None; before = Some (label_by w); after = None; prev = w.prev; place = place };
  distance = w.distance;
}

-- for a position; once a hard window is missed, only that no label is left
abbrev pub WalksTo : Option Underway → ℕ → Position → Type 0
WalksTo (Some w) place p = p ≡ position_of w place
WalksTo None place p = alive_of p.clock ≡ false
