-- "on whole numbers below 2^53 the sums are exact": what a plan states of a round with a lawful schedule, read from its bytes. Assumes nothing.
use Rattle.std.specs.Prelude.{◌≡◌, ℕ, ◌+◌, ◌*◌, ◌≤◌, ◌<◌, Bool, true, false, cond, T, eqb, length, get_or, Float, Some, None}
use Rattle.std.proofs.Common.{sym, ◌∙◌}
use Rattle.std.proofs.Math.Path.{ap, subst}
use native.Mathlib.Omega.{arith}
use mathlib.Core.List.{List, [], ◌∷◌}
use Rattle.std.specs.Float.Ieee.{binary64, fits}
use Rattle.std.specs.Float.Ieee.Fits.{add-fits}
use Rattle.lists.specs.Every.{Every}
use Rattle.lists.specs.Laws.Every.{every_at, every_map}
use Rattle.wire.specs.Bytes.{le}
use Rattle.sheet.specs.Fields.{vehicles_of, method_of}
use Rattle.sheet.specs.Accepted.{Accepted}
use Rattle.sheet.specs.Fleet.{fleet_of}
use Rattle.sheet.specs.Values.{vehicle_of}
use Rattle.sheet.specs.Laws.Finite.{demand_bounded}
use Rattle.evaluation.specs.Routed.{Routed}
use Rattle.evaluation.specs.Laws.Limits.{home_row}
use Rattle.evaluation.specs.Limits.{limits_at}
use Rattle.evaluation_clock.specs.Sums.{◌⊕◌}
use Rattle.evaluation_clock.specs.RestAnswer.{RestAnswer}
use Rattle.evaluator.specs.Record.{ready_for, record_of, build_route}
use Rattle.lawful.specs.Whole.{Whole, Is}
use Rattle.lawful.specs.Lawful.{home_of, travel_n, load_n, lawful}
use Rattle.lawful.specs.Figures.{duration_with}
use Rattle.lawful.specs.Laws.Rounds.{Rows}
use Rattle.lawful.specs.Laws.Meaning.{rows_of_lem}
use Rattle.lawful.specs.Laws.Figures.{record_exact}
use Rattle.lawful.specs.Laws.Visits.{load_exact}
use Rattle.constructive.specs.Outcome.{Round, Outcome, round_at}
use Rattle.multi_depot_offers.specs.ByDepot.{construct_of, outcome_of}
use Rattle.multi_depot_offers.specs.Laws.Rounds.{RoundFrom, constructs_from, rounds_every, outcome_right_lem, rounds_few}
use Rattle.plan.specs.Plan.{round_record_at, plan_of}
use Rattle.plan.specs.Read.{read_plan}
use Rattle.plan.specs.Stated.{built_record, record_bytes}
use Rattle.plan.specs.Laws.Stated.{record_stated}
use Rattle.reason.specs.Reason.{reason_of}
use Rattle.plan_door.specs.Laws.Told.{told_record}
use Rattle.plan_reader.specs.Laws.Links.{links_at}
use Rattle.planner.specs.Answer.{plan_for, LawfulRound}
use Rattle.planner.specs.Laws.Promised.{Right, all_right, plan_back, lawful_rounds}
use Rattle.planner_cases.specs.Exact.{RoundExact}

-- home at the return, or when the rest there ends
ready_fits : (a : RestAnswer) (duration : Float) (place : ℕ) (x y : Float) → T (fits binary64 (ready_for a duration place (x ⊕ y)))
unfolding ready_for
ready_fits None duration place x y = add-fits binary64 x y
ready_fits (Some (at, start)) duration place x y = go (eqb at place)
  where
    go : (t : Bool) → T (fits binary64 (cond t (start ⊕ duration) (x ⊕ y)))
    go true = add-fits binary64 start duration
    go false = add-fits binary64 x y

module _ (s : List ℕ) (fine : Accepted s) where
  load_upto : (is : List ℕ) → Rows s is → load_n s is ≤ 1_000_000 * length is
  unfolding load_n
  load_upto [] r = omega arith
  load_upto (i ∷ is) r = omega (arith, demand_bounded s fine i r.0, load_upto is r.1)

  -- a round that a depot made, whichever method did
  record Made (r : Round) : Type 0 where
    known : r.vehicle < vehicles_of s
    some : 0 < length r.stops

  made : Every Made (outcome_of s).rounds
  made = rounds_every s Made (λ d h members t l. every_map (RoundFrom s d) Made (λ r f. record { known = f.vehicle; some = f.some }) (construct_of s d members (fleet_of s d)).rounds (constructs_from s d members))

  module _ (whole : Whole s) (plan : List ℕ) (n : ℕ) (r : Round) (u : Right s fine r) (f : Made r) where
    routed : Routed s (home_of s r.vehicle) r.stops
    routed = record {
      sheet = fine;
      home = home_row s r.vehicle fine f.known (omega (arith, (links_at s r.stops 0 f.some u.links).1));
      few = omega (arith, u.few, fine.sized.rows);
      row = λ k h. (links_at s r.stops k h u.links).1;
    }

    distance_fits : T (fits binary64 (built_record s r).distance)
    unfolding build_route record_of
    distance_fits = add-fits binary64 _ _

    duration_fits : T (fits binary64 (built_record s r).duration)
    unfolding build_route record_of
    duration_fits = ready_fits _ _ _ _ _

    round_exact : T (lawful s r.vehicle r.stops) → ((m i : ℕ) → i + m ≤ 56 → le m plan (round_record_at n + i) ≡ le m (record_bytes s r) i) → RoundExact s plan n r
    unfolding vehicle_of
    round_exact t w =
        let v = r.vehicle in
        let k = record_exact s v r.stops whole f.known routed t in
        let l = load_exact s (home_of s v) (limits_at s v) r.stops in
        let b = load_upto r.stops (rows_of_lem s r.stops routed.row) in
        let q = record_stated _ _ (built_record s r) plan n w (omega (arith, routed.few)) (omega (arith, routed.few, k.place)) distance_fits duration_fits k.rest.written in
        record {
          load = q.load ∙ l;
          distance = subst (Is (travel_n s v (home_of s v) r.stops)) (sym q.distance) k.distance;
          time = k.time;
          walk = ap (λ (place : ℕ). duration_with s v place r.stops) q.place ∙ k.walk;
          duration = subst (Is k.time) (sym q.duration) k.duration;
          start = rw (q.place, q.start) k.rest.start;
        }

  module _ (small : (i : ℕ) → get_or s i 0 < 256) (whole : Whole s) where
    written_exact : (n : ℕ) → n < length (outcome_of s).rounds → T (lawful s (round_at (outcome_of s).rounds n).vehicle (round_at (outcome_of s).rounds n).stops)
        → RoundExact s (plan_for s) n (round_at (outcome_of s).rounds n)
    unfolding plan_for plan_of
    written_exact n h t =
        round_exact whole (plan_for s) n (round_at (outcome_of s).rounds n) (every_at (Right s fine) _ (outcome_of s).rounds n h (all_right s fine)) (every_at Made _ (outcome_of s).rounds n h made) t
        (told_record s (outcome_of s) _ fine small (rounds_few s) (outcome_right_lem s) (reason_of s) n h)

    -- whichever method made the plan
    pub plan_exact : (n : ℕ) → n < length (read_plan s (plan_for s)).rounds → T (lawful s (round_at (read_plan s (plan_for s)).rounds n).vehicle (round_at (read_plan s (plan_for s)).rounds n).stops)
        → RoundExact s (plan_for s) n (round_at (read_plan s (plan_for s)).rounds n)
    plan_exact =
        subst (λ (o : Outcome). (n : ℕ) → n < length o.rounds → T (lawful s (round_at o.rounds n).vehicle (round_at o.rounds n).stops) → RoundExact s (plan_for s) n (round_at o.rounds n))
        (sym (plan_back s fine small)) written_exact

    -- every round, where demand 3 has each lawful
    pub plans_exact : (method_of s ≡ 2 → ⊥) → (n : ℕ) → n < length (read_plan s (plan_for s)).rounds → RoundExact s (plan_for s) n (round_at (read_plan s (plan_for s)).rounds n)
    plans_exact m n h = plan_exact n h (every_at (LawfulRound s) _ (read_plan s (plan_for s)).rounds n h (lawful_rounds s fine small whole m)).schedule
