-- A sheet with two depots, rows 0 and 1, and two stops of demand 2: both are nearest to depot 0, whose vehicle carries one. Computed from the definitions.
use Rattle.std.specs.Prelude.{◌≡◌, refl, ℕ, List, [], ◌∷◌, ◌++◌}
use Rattle.std.specs.Float.Ieee.{add, mul, of_bits, lt, le, eq}
use Rattle.lists.specs.Count.{count}
use Rattle.lists.specs.Filter.{filtered}
use Rattle.wire.specs.Bytes.{le as number, bytes, f64_at}
use Rattle.sheet.specs.Fields.{rows_of, vehicles_of, method_of, times_of, row_marks, id_field, depot_field, vehicle_marks, marked}
use Rattle.sheet.specs.Depots.{leading, depots_of}
use Rattle.sheet.specs.Values.{gate_at, demand_of, stop_of, limit_at, rest_after, vehicle_of, distance_of, time_of}
use Rattle.sheet.specs.SheetA.{f1, f3, f4, f10, f64s, sheet_header, row_bytes, no_times, vehicle_bytes}
use Rattle.sheet.specs.Fleet.{fleet_of}
use Rattle.evaluation.specs.Limits.{limits_at, allow_of}
use Rattle.evaluation.specs.Checks.{some_windowed, has_soft_windows}
use Rattle.constructive.specs.Members.{members_of}
use Rattle.nearest_neighbor_choice.specs.Choice.{choose}
use Rattle.nearest_neighbor.specs.Greedy.{extend, extend_on, greedy}
use Rattle.nearest_neighbor_choice.specs.Offers.{nearest_offer, window_offer}
use Rattle.nearest_neighbor.specs.Nearest.{nearest_onward, nearest_neighbor, window_onward, nearest_neighbor_tw}
use Rattle.multi_depot_offers.specs.ByDepot.{has_vehicle, sooner, asked_after, nearest_from, next_depot, construct_of, planned_of, planned_upto, moves_to, offered_from, after_offers, moved, settled_in, first_from, first_depots, settled_at, gathered, by_depot, outcome_of}

abbrev rows : List ℕ
rows = row_bytes 0 0 1 no_times ++ (row_bytes 0 0 1 no_times ++ (row_bytes 0 2 0 no_times ++ row_bytes 0 2 0 no_times))

-- from depot 0 stop 2 is at 1 and stop 3 at 3, from depot 1 at 10 and at `far`
abbrev table : ℕ → List ℕ
table far = f64s (0 ∷ f10 ∷ f1 ∷ f3 ∷ f10 ∷ 0 ∷ f10 ∷ far ∷ f1 ∷ f10 ∷ 0 ∷ f4 ∷ f3 ∷ far ∷ f4 ∷ 0 ∷ [])

abbrev sheet : ℕ → List ℕ → ℕ → List ℕ
sheet n fleet far = sheet_header 4 n 2 ++ (rows ++ (fleet ++ table far))

pub record Rows : Type 0 where
  -- stop 3 is turned down, and goes to depot 1
  pub next : outcome_of (sheet 2 (vehicle_bytes 0 ++ vehicle_bytes 1) f4) ≡ record { rounds = record { vehicle = 0; stops = 2 ∷ [] } ∷ record { vehicle = 1; stops = 3 ∷ [] } ∷ []; aside = [] }
  -- at equal distances it goes to the lower depot first
  pub tie : first_depots (sheet 2 (vehicle_bytes 0 ++ vehicle_bytes 1) f3) ≡ 0 ∷ 1 ∷ 0 ∷ 0 ∷ []
  -- no other depot has a vehicle
  pub last : outcome_of (sheet 1 (vehicle_bytes 0) f4) ≡ record { rounds = record { vehicle = 0; stops = 2 ∷ [] } ∷ []; aside = 3 ∷ [] }
  -- no depot has a vehicle
  pub unassigned : outcome_of (sheet 0 [] f4) ≡ record { rounds = []; aside = 2 ∷ 3 ∷ [] }

pub cases : Rows
unfolding outcome_of by_depot gathered settled_at first_depots first_from settled_in moved after_offers offered_from moves_to planned_upto planned_of construct_of members_of next_depot nearest_from asked_after sooner has_vehicle fleet_of filtered count nearest_neighbor nearest_neighbor_tw greedy extend extend_on choose nearest_offer nearest_onward window_offer window_onward allow_of some_windowed has_soft_windows gate_at demand_of stop_of limits_at limit_at rest_after vehicle_of distance_of time_of rows_of vehicles_of method_of times_of row_marks id_field depot_field vehicle_marks marked leading depots_of number bytes f64_at add mul of_bits lt le eq
cases = record { next = refl; tie = refl; last = refl; unassigned = refl }
