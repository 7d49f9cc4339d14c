-- Document 01's rows 1, 6, 7, 8 and 14, computed from the definitions: "1. Savings 1, 2. [..] 6. Savings, max distance 24: as 1. 7. At 23: rounds 1 and 2.
-- 8. At 19: both aside. [..] 14. Savings, capacity 0: rounds 1 and 2."
use Rattle.std.specs.Prelude.{◌≡◌, refl, ℕ, true, false, List, [], ◌∷◌, ◌++◌, replicate}
use Rattle.std.specs.Float.{binary64}
use Rattle.std.specs.Float.Ieee.{add, sub, div, of_bits, lt, le}
use Rattle.lists.specs.Fold.{last_of}
use Rattle.lists.specs.Count.{count}
use Rattle.wire.specs.Bytes.{le as number, bytes, f64_at}
use Rattle.sorting.specs.Stable.{insert, sorted}
use Rattle.sheet.specs.Fields.{rows_of, vehicles_of, row_marks, vehicle_marks, marked, depot_field}
use Rattle.sheet.specs.Values.{gate_at, demand_of, stop_of, limit_at, rest_after, vehicle_of, distance_of, fixed_in_distance}
use Rattle.sheet.specs.SheetA.{f1, f3, f64s, sheet_header, stop_rows, table_bytes, sheet_a}
use Rattle.evaluation_clock.specs.Serve.{pass, serve_of}
use Rattle.evaluation_clock.specs.Clock.{step_of, taken_of, moved_of, unrested, returned}
use Rattle.evaluation.specs.Walk.{drive_to}
use Rattle.evaluation.specs.Limits.{limits_at, is_unlimited, allow_of}
use Rattle.evaluation.specs.Verdict.{held_to, mends, or_home, verdict_of, verdict_from}
use Rattle.evaluation.specs.Feasible.{route_feasible}
use Rattle.evaluation.specs.Checks.{some_windowed, has_time_windows, has_soft_windows, route_checks_needed}
use Rattle.constructive.specs.Terms.{terms_of}
use Rattle.constructive.specs.Outcome.{Outcome}
use Rattle.constructive.specs.Load.{load_of}
use Rattle.clarke_wright_savings.specs.Savings.{same_back, symmetric, directed_of, Saving, savings_from, savings_of, numbered, ranked, starts_alone, starts_of, slot_of, apart, joined, joining, merge_passes, merge_of, merged_by, rounds_of, aside_of, planned_by, clarke_wright}

-- sheet A with a capacity, marks and max distance of its vehicle
abbrev pub relative : ℕ → ℕ → ℕ → List ℕ
relative capacity marks max =
    sheet_header 3 1 0 ++ (stop_rows ++ (bytes 4 7 ++ (bytes 4 0 ++ (bytes 4 capacity ++ (bytes 4 marks ++ (f64s (f1 ∷ 0 ∷ max ∷ []) ++ (replicate 32 0 ++ table_bytes)))))))

-- sheet A by savings with a maximum distance
abbrev pub within : ℕ → List ℕ
within max = relative 2 1 max

-- both stops on one round of the only vehicle
abbrev together : Outcome
together = record { rounds = record { vehicle = 0; stops = 1 ∷ 2 ∷ [] } ∷ []; aside = [] }

abbrev each : Outcome
each = record { rounds = record { vehicle = 0; stops = 1 ∷ [] } ∷ record { vehicle = 0; stops = 2 ∷ [] } ∷ []; aside = [] }

abbrev planned : List ℕ → Outcome
planned s = clarke_wright s 0 0 (1 ∷ 2 ∷ [])

pub record Rows : Type 0 where
  pub row1 : planned (sheet_a 0) ≡ together
  pub row6 : planned (within 0x4038_0000_0000_0000) ≡ together
  pub row7 : planned (within 0x4037_0000_0000_0000) ≡ each
  pub row8 : planned (within 0x4033_0000_0000_0000) ≡ record { rounds = []; aside = 1 ∷ 2 ∷ [] }
  pub row14 : planned (relative 0 0 0) ≡ each

pub cases : Rows
unfolding clarke_wright planned_by aside_of rounds_of merged_by merge_of merge_passes slot_of starts_of starts_alone ranked numbered savings_of savings_from directed_of terms_of symmetric same_back load_of count last_of route_checks_needed has_soft_windows has_time_windows some_windowed route_feasible verdict_from verdict_of held_to mends or_home allow_of is_unlimited drive_to moved_of taken_of returned unrested step_of serve_of pass fixed_in_distance gate_at demand_of stop_of depot_field limits_at limit_at rest_after vehicle_of distance_of rows_of vehicles_of row_marks vehicle_marks marked sorted insert number bytes f64_at add sub div of_bits lt le
cases = record { row1 = refl; row6 = refl; row7 = refl; row8 = refl; row14 = refl }

-- ---- the ways of joining stop 1's round, in slot 0, and stop 2's, in slot 1
pub record Ways : Type 0 where
  pub along : joining false 1 2 0 1 (3 ∷ 1 ∷ []) (2 ∷ 4 ∷ []) ≡ joined 0 1 (3 ∷ 1 ∷ 2 ∷ 4 ∷ [])
  pub against : joining false 1 2 0 1 (1 ∷ 3 ∷ []) (4 ∷ 2 ∷ []) ≡ joined 1 0 (4 ∷ 2 ∷ 1 ∷ 3 ∷ [])
  pub ends : joining false 1 2 0 1 (3 ∷ 1 ∷ []) (4 ∷ 2 ∷ []) ≡ joined 0 1 (3 ∷ 1 ∷ 2 ∷ 4 ∷ [])
  pub starts : joining false 1 2 0 1 (1 ∷ 3 ∷ []) (2 ∷ 4 ∷ []) ≡ joined 0 1 (3 ∷ 1 ∷ 2 ∷ 4 ∷ [])
  pub directed : joining true 1 2 0 1 (1 ∷ 3 ∷ []) (4 ∷ 2 ∷ []) ≡ apart
  pub inner : joining false 1 2 0 1 (3 ∷ 1 ∷ 5 ∷ []) (2 ∷ 4 ∷ []) ≡ apart

pub ways : Ways
unfolding last_of
ways = record { along = refl; against = refl; ends = refl; starts = refl; directed = refl; inner = refl }

-- "greatest first, ties as generated"
abbrev saving : ℕ → Saving
saving value = record { from = 1; to = 2; value = of_bits binary64 value }

pub ties : ranked (saving f1 ∷ saving f3 ∷ saving f3 ∷ []) ≡ 1 ∷ 2 ∷ 0 ∷ []
unfolding ranked numbered sorted insert lt of_bits
ties = refl
