-- Document 01's listing of its case 1, byte by byte, from the bytes of sheet A and of its plan; one with both stops aside, as in case 8; a refusal.
use Rattle.std.specs.Prelude.{ℕ, ◌≡◌, refl, true, List, [], ◌∷◌}
use Rattle.std.specs.Float.Ieee.{add, mul, of_bits, to_bits}
use Rattle.wire.specs.Bytes.{le as le_bytes, bytes, write, f64_at}
use Rattle.sheet.specs.Fields.{rows_of, vehicles_of, times_of, row_marks, id_field, depot_field, vehicle_marks, marked}
use Rattle.sheet.specs.Values.{gate_at, demand_of, stop_of, limit_at, rest_after, vehicle_of, distance_of, time_of}
use Rattle.sheet.specs.SheetA.{sheet_a}
use Rattle.sheet.specs.Fleet.{index_from}
use Rattle.evaluation.specs.Limits.{limits_at}
use Rattle.evaluator.specs.Record.{placed_of, ready_for, departs_at, late_after, cost_after, visited_of, record_of, build_route, route_cost, price_with}
use Rattle.constructive.specs.Outcome.{Outcome}
use Rattle.plan.specs.Plan.{visit_bytes, aside_bytes, round_counts, round_figures, round_bytes, header_bytes, with_visits, with_round, with_rounds, with_aside, price_after, price_of, plan_bytes, plan_of}
use Rattle.plan.specs.Read.{rounds_at, aside_at, id_at, first_stop_at, next_at, chain_from, rounds_from, read_plan}
use Rattle.listing_text.specs.Text.{text, concatenated, decimal_in, decimal, hex_in}
use Rattle.listing_text.specs.Listing.{field, word, figures_text, header_line, round_line, stop_line, stop_lines, round_text, round_texts, listing_of, refused_text}

-- the listing of an outcome of sheet A
abbrev listed : Outcome → List ℕ
listed o = listing_of (sheet_a 0) (plan_of (sheet_a 0) o true)

-- "1. Savings 1, 2."
abbrev case1 : Outcome
case1 = record { rounds = record { vehicle = 0; stops = 1 ∷ 2 ∷ [] } ∷ []; aside = [] }

-- "8. At 19: both aside."
abbrev case8 : Outcome
case8 = record { rounds = []; aside = 1 ∷ 2 ∷ [] }

pub record Said : Type 0 where
  pub routed :
      listed case1 ≡ concatenated (
      text "rounds 1 aside 0\n"
      ∷ text "round 7 first 1 load 2 rest 0 4038000000000000 4038000000000000\n"
      ∷ text "stop 1 next 2 load 1 4024000000000000 4024000000000000\n"
      ∷ text "stop 2 next 0 load 2 402C000000000000 402C000000000000\n"
      ∷ []
      )
  pub aside :
      listed case8 ≡ concatenated (
      text "rounds 0 aside 1\n"
      ∷ text "stop 1 next 2 load 0 0000000000000000 0000000000000000\n"
      ∷ text "stop 2 next 0 load 0 0000000000000000 0000000000000000\n"
      ∷ []
      )
  pub refused : refused_text 10 ≡ text "refused 10\n"

pub said : Said
unfolding listing_of round_texts round_text stop_lines stop_line round_line header_line figures_text word field refused_text decimal_in decimal hex_in plan_of plan_bytes with_rounds with_round with_visits with_aside visit_bytes aside_bytes round_counts round_figures round_bytes header_bytes price_after price_of placed_of ready_for departs_at late_after cost_after visited_of record_of build_route route_cost price_with gate_at demand_of stop_of limits_at limit_at rest_after vehicle_of distance_of time_of rows_of vehicles_of times_of row_marks id_field depot_field vehicle_marks marked le_bytes bytes write f64_at add mul of_bits to_bits read_plan rounds_from chain_from index_from rounds_at aside_at id_at first_stop_at next_at
said = record { routed = refl; aside = refl; refused = refl }
