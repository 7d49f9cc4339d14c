-- What a sheet has of windows: every row is the depot's or one of the stops. Assumes nothing.
use Rattle.std.specs.Prelude.{None}
use mathlib.Core.Path.{◌≡◌, sym, ap, ◌∙◌, subst}
use Prim.Native.Nat.{ℕ, zero, suc, ◌≤◌, ◌<◌}
use native.Mathlib.Omega.{arith}
use mathlib.Core.Bool.{Bool, true, false}
use mathlib.Core.List.{List}
use lib.ListN.{take}
use borrow.Author.Tests.{le-leb, lt-ltb}
use Rattle.lists.specs.Count.{one, count}
use Rattle.lists.specs.Every.{Every}
use Rattle.lists.specs.Laws.Permutation.{every_counted}
use Rattle.sheet.specs.Fields.{rows_of}
use Rattle.sheet.specs.Values.{stop_of}
use Rattle.sheet.specs.Depots.{depots_of}
use Rattle.sheet.specs.Stops.{is_stop}
use Rattle.evaluation.specs.declared.limits.RouteLimits.{RouteLimits}
use Rattle.evaluation.specs.Limits.{is_unlimited}
use Rattle.evaluation.specs.Checks.{row_windowed, some_windowed, has_time_windows, has_soft_windows, route_checks_needed}
use Rattle.constructive.specs.Outcome.{Outcome, outcome_in, stops_of}
use Rattle.constructive.specs.Unchecked.{Windowless}
use Rattle.constructive.specs.Laws.Unchecked.{neither, unchecked_windowless}
use Rattle.constructive.specs.Laws.Terms.{gate_open, none_soft}
use Rattle.constructive.specs.Laws.TableStops.{stops_in}
use Rattle.fleet.specs.Limit.{limit_on, soft_in}
use Rattle.fleet.specs.Laws.Placed.{outcome_once}
use Rattle.fleet_cheapest.specs.declared.Windows.{Windows}
use Rattle.fleet_cheapest.specs.Promises.{WindowsOf}
use Rattle.fleet_limiter.specs.Limitable.{Limitable}
use Rattle.fleet_limiter.specs.Promises.{windows_in, TablesHold, Triable}
use Rattle.fleet_limiter.proofs.Choosing.{held}
use Rattle.fleet_limiter.proofs.DroppingRounds.{limit_rests}

module _ (s rows : List ℕ) (e : has_time_windows s 0 rows ≡ false) where
  parts : (row_windowed false s 0 ≡ false) × (some_windowed false s rows ≡ false)
  unfolding has_time_windows
  parts = neither (row_windowed false s 0) (some_windowed false s rows) e

  hard : has_soft_windows s 0 rows ≡ false
  unfolding has_soft_windows
  hard = rw (gate_open (stop_of s 0).gate parts.0, none_soft s rows parts.1)

  -- a vehicle without limits needs no check then
  abbrev free : RouteLimits
  free = record { max_distance = None; max_duration = None; rest = None; at_home = false }

  each : Every (Windowless s) rows
  unfolding route_checks_needed is_unlimited
  each = unchecked_windowless s 0 rows free (rw e)

-- ---- the tables have every stop
module _ {s stops ends vehicles : List ℕ} {rounds total : ℕ} (l : Limitable s stops ends vehicles rounds total) where
  abbrev o : Outcome
  o = outcome_in stops ends vehicles rounds total

  all_stops_lem : stops_of o ≡ take total stops
  all_stops_lem = stops_in s stops ends vehicles rounds total l.tables

  every_row : has_time_windows s 0 (take total stops) ≡ false → (row : ℕ) → row < rows_of s → Windowless s row
  every_row e zero h = (parts s (take total stops) e).0
  every_row e (suc k) h =
      let u : is_stop s (suc k) ≡ true = rw (le-leb (depots_of s) (suc k) (omega (arith, l.one)), lt-ltb (suc k) (rows_of s) h) in
      let c : count (suc k) (stops_of o) ≡ 1 = outcome_once s o l.right (suc k) ∙ ap one u in
      every_counted (Windowless s) (suc k) (take total stops) (each s (take total stops) e) (rw (← all_stops_lem) (omega (arith, c)))

  windows_of : WindowsOf s (windows_in s (take total stops))
  windows_of = record { sheet = l.tables.sheet; hard = hard s (take total stops); windowless = every_row }

  -- so the rounds can be dropped by what is read
  module _ {w : Windows} (e : w ≡ windows_in s (take total stops)) where
    pub triable : 0 < rounds → Triable s w total
    triable h = record {
      windows = rw e windows_of;
      some = omega (arith, l.tables.few);
      few = omega (arith, l.tables.few, l.tables.sheet.sized.rows, l.one, l.all);
    }

    pub read_so : {stops' ends' vehicles' : List ℕ} {n : ℕ} (greatest : ℕ) → TablesHold s stops' ends' vehicles' n total (limit_on s w.soft greatest rounds o) → TablesHold s stops' ends' vehicles' n total (limit_on s (soft_in s o) greatest rounds o)
    read_so {stops'} {ends'} {vehicles'} {n} greatest g = subst (λ (soft : Bool). TablesHold s stops' ends' vehicles' n total (limit_on s soft greatest rounds o)) (ap (λ (x : Windows). x.soft) e ∙ ap (has_soft_windows s 0) (sym all_stops_lem)) g

  -- no round is dropped
  pub stays : {greatest : ℕ} → rounds ≤ greatest → TablesHold s stops ends vehicles rounds total (limit_on s (soft_in s o) greatest rounds o)
  stays {greatest} h = record { tables = l.tables; outcome = sym (limit_rests s (soft_in s o) greatest rounds o (omega (arith, (held l.tables).holds.count))) }
