-- Document 01's rows 3 and 4, computed from the definitions: "3. Nearest 1, 2. 4. `nn_tw` 1, 2."
use Rattle.std.specs.Prelude.{◌≡◌, refl, [], ◌∷◌}
use Rattle.std.specs.Float.Ieee.{add, mul, of_bits, lt, le}
use Rattle.wire.specs.Bytes.{le as number, bytes, f64_at}
use Rattle.sheet.specs.Fields.{rows_of, vehicles_of, times_of, row_marks, id_field, depot_field, vehicle_marks, marked}
use Rattle.sheet.specs.Values.{gate_at, demand_of, stop_of, limit_at, rest_after, vehicle_of, distance_of, time_of}
use Rattle.sheet.specs.SheetA.{sheet_a}
use Rattle.evaluation.specs.Limits.{limits_at, allow_of}
use Rattle.evaluation.specs.Checks.{some_windowed, has_soft_windows}
use Rattle.constructive.specs.Outcome.{Outcome}
use Rattle.nearest_neighbor_choice.specs.Choice.{choose}
use Rattle.nearest_neighbor.specs.Greedy.{extend, extend_on, greedy}
use Rattle.nearest_neighbor_choice.specs.Offers.{nearest_offer, window_offer}
use Rattle.nearest_neighbor.specs.Nearest.{nearest_onward, nearest_neighbor, window_onward, nearest_neighbor_tw}

-- one round of the only vehicle: stop 1, then stop 2
abbrev rounded : Outcome
rounded = record { rounds = record { vehicle = 0; stops = 1 ∷ 2 ∷ [] } ∷ []; aside = [] }

pub record Rows : Type 0 where
  pub row3 : nearest_neighbor (sheet_a 2) 0 (1 ∷ 2 ∷ []) (0 ∷ []) ≡ rounded
  pub row4 : nearest_neighbor_tw (sheet_a 3) 0 (1 ∷ 2 ∷ []) (0 ∷ []) ≡ rounded

pub rows : Rows
unfolding nearest_neighbor nearest_neighbor_tw greedy extend extend_on choose nearest_offer nearest_onward window_offer window_onward allow_of some_windowed has_soft_windows gate_at demand_of stop_of limits_at limit_at rest_after vehicle_of distance_of time_of rows_of vehicles_of times_of row_marks id_field depot_field vehicle_marks marked number bytes f64_at add mul of_bits lt le
rows = record { row3 = refl; row4 = refl }
