-- A stop that is no nearer than the best so far does not win, by either rule: with windows lateness only adds to the distance. Assumes nothing.
use Rattle.std.specs.Prelude.{◌≡◌, refl, ℕ, ◌^◌, ◌<◌, Bool, true, false, cond, List, Float, Some, None}
use Rattle.std.proofs.Common.{true≢false}
use Rattle.std.specs.Float.Ieee.{lt, of_bits, of_fields, odd}
use Rattle.numbers.specs.Laws.Upto.{Upto}
use Rattle.numbers.specs.Laws.Range.{zero_upto}
use Rattle.numbers.specs.Laws.Adding.{Adds, not_below_zero, product_adds, sum_not_below}
use Rattle.sheet.specs.Fields.{rows_of}
use Rattle.sheet.specs.Values.{nought, stop_of, distance_of}
use Rattle.sheet.specs.Laws.Finite.{GateBounded, stop_bounded, distance_bounded, distance_fits}
use Rattle.sheet.specs.declared.customer.Gate.{Gate}
use Rattle.sheet.specs.declared.customer.Gate.TheVariants.{Open, Hard, Soft}
use Rattle.sheet.specs.declared.vehicle.Vehicle.{Vehicle}
use Rattle.evaluation_clock.specs.Sums.{◌⊖◌, ◌⊗◌, ◌⊕◌}
use Rattle.evaluation_clock.specs.Window.{lateness_of}
use Rattle.evaluation.specs.declared.limits.RouteLimits.{RouteLimits}
use Rattle.nearest_neighbor_choice.specs.StopChoice.{StopChoice}
use Rattle.nearest_neighbor_choice.specs.declared.partial.Partial.{Partial}
use Rattle.nearest_neighbor_choice.specs.Choice.{wins_of, better_stop}
use Rattle.nearest_neighbor_choice.specs.Offers.{arrival_at, late_at, penalty_of}
use Rattle.nearest_neighbor_choice.specs.Partial.{trip_of, nearest_takes, nearest_by, candidate_of, takes_by, window_by, PartialRoute}
use Rattle.nearest_neighbor_choice.specs.Heuristic.{Heuristic, Nearest, NearestTw, offer_by}
use Rattle.nearest_neighbor_choice.proofs.Judging.{loses}

-- ---- the lateness, and what it costs
picked_adds : (t : Bool) (x : Float) → lt x nought ≡ t → Adds (cond t nought x)
unfolding of_bits of_fields odd
picked_adds true x e = tt
picked_adds false x e = not_below_zero x e

late_adds : (gate : Gate) (arrival : Float) → Adds (late_at gate arrival)
unfolding lateness_of of_bits of_fields odd
late_adds Open arrival = tt
late_adds (Hard w) arrival = picked_adds (lt (arrival ⊖ w.due) nought) (arrival ⊖ w.due) refl
late_adds (Soft w penalty) arrival = picked_adds (lt (arrival ⊖ w.due) nought) (arrival ⊖ w.due) refl

penalty_upto : (gate : Gate) → GateBounded gate → Upto (10 ^ 6) (penalty_of gate)
penalty_upto Open g = zero_upto (10 ^ 6)
penalty_upto (Hard w) g = zero_upto (10 ^ 6)
penalty_upto (Soft w penalty) g = g.1

cost_adds : (gate : Gate) (arrival : Float) → GateBounded gate → Adds (penalty_of gate ⊗ late_at gate arrival)
cost_adds gate arrival g = product_adds (10 ^ 6) (penalty_of gate) (late_at gate arrival) (penalty_upto gate g) (late_adds gate arrival)

-- ---- so it does not win
module _ (s : List ℕ) (partial : Partial) (i : ℕ) (ok : PartialRoute s partial) (here : i < rows_of s) where
  abbrev distance : Float
  distance = distance_of s partial.current i

  with_cost : (c : StopChoice) (cost : Float) → Adds cost → wins_of distance c ≡ false → wins_of (distance ⊕ cost) c ≡ false
  with_cost None cost a e = absurd (true≢false e)
  with_cost (Some (at, least)) cost a e = sum_not_below (10 ^ 9) distance cost least (distance_fits s partial.current i) (distance_bounded s ok.sheet partial.current i ok.from here) a e

  pub no_nearer : (depot : ℕ) (rule : Heuristic) (v : Vehicle) (limits : RouteLimits) (c : StopChoice) (j : ℕ) → wins_of distance c ≡ false → c ≡ better_stop c j (offer_by s depot rule v limits partial i)
  unfolding offer_by nearest_by window_by
  no_nearer depot Nearest v limits c j e = loses c j (nearest_takes s depot v limits partial i) distance distance refl e
  no_nearer depot (NearestTw soft) v limits c j e =
      let seen = candidate_of s partial i in
      let gate = (stop_of s i).gate in
      loses c j (takes_by s depot v limits soft partial i seen) seen.key seen.key refl (with_cost c seen.late_cost (cost_adds gate (arrival_at s (trip_of partial) i) (stop_bounded s ok.sheet i here).gate) e)
