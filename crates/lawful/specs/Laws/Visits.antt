-- The arrivals, departures and loads that `build_route` writes down of a round with a lawful schedule are those of the walk over natural numbers. Assumes nothing.
use Rattle.std.specs.Prelude.{◌≡◌, Bool, cond, T, ltb, eqb, length, Float, Option, Some, None}
use Rattle.std.proofs.Math.Path.{refl, sym, subst}
use Rattle.std.proofs.Common.{ap, ◌∙◌, add_assoc, zero-add, arith, eqb→eq, eq-eqb, ne_eqb}
use Prim.Native.Nat.{ℕ, zero, suc, ◌+◌, ◌*◌, ◌≤◌, ◌<◌, zero-le}
use Rattle.std.proofs.Math.Nat.{sub-zero, suc-sub-suc}
use Rattle.std.proofs.Math.Bool.{true, false}
use mathlib.Core.List.{List, [], ◌∷◌}
use Rattle.std.proofs.Math.Dec.{eqb-suc-suc, eqb-suc-zero}
use Rattle.sheet.specs.Fields.{rows_of, vehicles_of, most_rows}
use Rattle.sheet.specs.Accepted.{Accepted}
use Rattle.sheet.specs.Values.{demand_of, time_of, stop_of, rest_of, rest_after, vehicle_of}
use Rattle.evaluation_clock.specs.RestAnswer.{RestAnswer}
use Rattle.evaluation_clock.specs.Sums.{◌⊕◌}
use Rattle.evaluation_clock.specs.Serve.{rest_place, at_depot, visit_of}
use Rattle.evaluation.specs.declared.limits.RouteLimits.{RouteLimits}
use Rattle.evaluation.specs.Routed.{Routed}
use Rattle.evaluation.specs.Limits.{limits_at}
use Rattle.evaluation.specs.Laws.Limits.{limits_rest}
use Rattle.evaluation.specs.Verdict.{Verdict, verdict_on}
use Rattle.evaluator.specs.Record.{placed_by, placed_of, ready_for, visited_of, begin_of, progress_of, record_of, build_route}
use Rattle.evaluator.specs.declared.Placed.{Placed}
use Rattle.evaluator.specs.declared.Progress.{Progress}
use Rattle.evaluator.specs.Laws.Agree.{passed}
use Rattle.lawful.specs.Whole.{Whole, Is}
use Rattle.lawful.specs.Lawful.{Walk, failed, left, time_n, home_of, rests, latest_n, earliest_n, rest_n, departs, stop_n, walk_n, duration_n, load_n, rested_at_home, lawful, later}
use Rattle.lawful.specs.Figures.{rest_start_n, duration_with, RestExact, VisitExact, VisitsExact}
use Rattle.lawful.specs.Laws.Whole.{add_whole}
use Rattle.lawful.specs.Laws.Amounts.{Amount, RestAmounts, row_amounts, rest_amounts, time_amount}
use Rattle.lawful.specs.Laws.Windows.{Same, Arriving, nought_is, later_upto}
use Rattle.lawful.specs.Laws.Order.{walk_failed}
use Rattle.lawful.specs.Laws.Places.{walk_past}
use Rattle.lawful.specs.Laws.Stops.{break_of, visit_same}
use Rattle.lawful.specs.Laws.Rounds.{Rows}
use Rattle.lawful.specs.Laws.Meaning.{rows_of_lem}
use Rattle.lawful.specs.Laws.Figures.{gone, record_exact}
use Rattle.sheet.specs.declared.vehicle.VehicleBreak.{VehicleBreak}
use Rattle.evaluation_clock.specs.declared.label.Label.{Label}

module _ (s : List ℕ) (v : ℕ) (a : Accepted s) (whole : Whole s) (is-vehicle : v < vehicles_of s) where
  rest : RestAmounts s v
  rest = rest_amounts s a whole v is-vehicle

  -- it has not failed at any stop before
  unfailed : (place : ℕ) (w : Walk) (prev : ℕ) (is : List ℕ) (end : ℕ) → walk_n s v place w prev is ≡ left end → (t : ℕ) × (w ≡ left t)
  unfailed place failed prev is end e = absurd (gone end (sym (walk_failed s v place prev is) ∙ e))
  unfailed place (left t) prev is end e = (t, refl)

  -- ---- the record on its way after n stops, at a departure
  record Going (n t : ℕ) (p : Progress) : Type 0 where
    place : p.place ≡ suc n
    from : p.prev < rows_of s
    time : Is t p.departure
    early : t ≤ 3_000_000_000 * n

  module _ (n t i : ℕ) (p : Progress) (g : Going n t p) (few : n ≤ most_rows) (to : i < rows_of s) (placed : Placed) where
    leg : Amount (time_n s p.prev i) (time_of s p.prev i)
    leg = time_amount s a whole p.prev i g.from to

    arrives_by : t + time_n s p.prev i ≤ 3_000_000_000 * n + 1_000_000_000
    arrives_by = let b = leg.small in let c = g.early in omega arith

    arrives_at : Is (t + time_n s p.prev i) (p.departure ⊕ time_of s p.prev i)
    arrives_at = let b = arrives_by in add_whole t (time_n s p.prev i) p.departure (time_of s p.prev i) g.time leg.is (omega arith)

    -- one stop further, where the vehicle is ready at `at`
    going_next : (at : ℕ) (ready : Float) (u : ℕ) → ready_for placed.answer placed.duration p.place (p.departure ⊕ time_of s p.prev i) ≡ ready
        → Is at ready → Arriving n at → departs s i (left at) ≡ left u → Going (suc n) u (visited_of s placed p i)
    unfolding visited_of
    going_next at ready u r h k e =
        go (visit_of at_depot ready (stop_of s i)) refl
        (subst (λ (w : Walk). Same (suc n) w (visit_of at_depot ready (stop_of s i))) e (visit_same s v i (row_amounts s a whole i to) rest n few at at_depot ready h k refl))
      where
        go : (z : Option Label) → visit_of at_depot ready (stop_of s i) ≡ z → Same (suc n) (left u) z → Going (suc n) u (visited_of s placed p i)
        go None q x = absurd x
        go (Some m) q x = record {
          place = omega (arith, g.place);
          from = to;
          time = rw r (subst (Is u) (sym (passed (stop_of s i).gate ready (stop_of s i).service at_depot m q).time) x.time);
          early = x.early;
        }

    visit : (here : Bool) (u : ℕ) → stop_n here s v p.prev i (left t) ≡ left u → Going (suc n) u (visited_of s placed p i)
        → VisitExact (time_n s p.prev i) (left t) (stop_n here s v p.prev i (left t)) (visited_of s placed p i)
    unfolding visited_of
    visit here u e h = record { from = t; at = refl; arrival = arrives_at; to = u; on = e; departure = h.time }

    pass_by : (u : ℕ) → ready_for placed.answer placed.duration p.place (p.departure ⊕ time_of s p.prev i) ≡ p.departure ⊕ time_of s p.prev i
        → stop_n false s v p.prev i (left t) ≡ left u → Going (suc n) u (visited_of s placed p i)
    unfolding stop_n
    pass_by u r e = let b = arrives_by in going_next (t + time_n s p.prev i) _ u r arrives_at (omega arith) e

    rest_here : (u : ℕ) (start : Float) → ready_for placed.answer placed.duration p.place (p.departure ⊕ time_of s p.prev i) ≡ start ⊕ (break_of s v).duration
        → Is (later (t + time_n s p.prev i) (earliest_n s v)) start → stop_n true s v p.prev i (left t) ≡ left u → Going (suc n) u (visited_of s placed p i)
    unfolding stop_n
    rest_here u start r h e = go (ltb (latest_n s v) begins) e
      where
        begins : ℕ
        begins = later (t + time_n s p.prev i) (earliest_n s v)

        go : (late : Bool) → departs s i (cond late failed (left (begins + rest_n s v))) ≡ left u → Going (suc n) u (visited_of s placed p i)
        go true q = absurd (gone u q)
        go false q =
            let b = arrives_by in
            let c = rest.earliest.small in
            let d = rest.duration.small in
            let l = later_upto (t + time_n s p.prev i) (earliest_n s v) (3_000_000_000 * n + 1_000_000_000) b (omega arith) in
            going_next (begins + rest_n s v) (start ⊕ (break_of s v).duration) u r (add_whole begins (rest_n s v) start (break_of s v).duration h rest.duration.is (omega arith)) (omega arith) q

  -- ---- the stops left, with the rest past or none
  visits_past : (placed : Placed) (is : List ℕ) (n t end : ℕ) (p : Progress) → Going n t p → n + length is ≤ most_rows → Rows s is
      → ((m : ℕ) (x : Float) → n < m → ready_for placed.answer placed.duration m x ≡ x) → walk_n s v 0 (left t) p.prev is ≡ left end → VisitsExact s v placed p 0 (left t) is
  unfolding VisitsExact walk_n visited_of
  visits_past placed [] n t end p g few rows free e = tt
  visits_past placed (i ∷ is) n t end p g few rows free e =
      let f = unfailed 0 (stop_n false s v p.prev i (left t)) i is end e in
      let q = pass_by n t i p g (omega arith) rows.0 placed f.0 (free p.place _ (omega (arith, g.place))) f.1 in (
        visit n t i p g (omega arith) rows.0 placed false f.0 f.1 q,
        subst (λ (w : Walk). VisitsExact s v placed (visited_of s placed p i) 0 w is) (sym f.1)
            (visits_past placed is (suc n) f.0 end (visited_of s placed p i) q (omega arith) rows.1 (λ m x h. free m x (omega arith)) (subst (λ (w : Walk). walk_n s v 0 w i is ≡ left end) f.1 e)),
      )

  -- with the rest further on
  module _ (at : ℕ) (start : Float) where
    abbrev rested : Placed
    rested = record { answer = Some (at, start); duration = (break_of s v).duration }

    visits_ahead : (j : ℕ) (is : List ℕ) (n t end : ℕ) (p : Progress) → Going n t p → n + length is ≤ most_rows → Rows s is → at ≡ suc n + j → Is (rest_start_n s v (suc j) (left t) p.prev is) start
        → walk_n s v (suc j) (left t) p.prev is ≡ left end → VisitsExact s v rested p (suc j) (left t) is
    unfolding VisitsExact walk_n visited_of rest_start_n ready_for
    visits_ahead j [] n t end p g few rows h b e = tt
    visits_ahead zero (i ∷ is) n t end p g few rows h b e =
        let f = unfailed 0 (stop_n true s v p.prev i (left t)) i is end e in
        let q = rest_here n t i p g (omega arith) rows.0 rested f.0 start (rw (eq-eqb at p.place (omega (arith, g.place)))) b f.1 in (
          visit n t i p g (omega arith) rows.0 rested true f.0 f.1 q,
          subst (λ (w : Walk). VisitsExact s v rested (visited_of s rested p i) 0 w is) (sym f.1)
              (visits_past rested is (suc n) f.0 end (visited_of s rested p i) q (omega arith) rows.1 (λ m x l. rw (ne_eqb at m (λ z. omega arith))) (subst (λ (w : Walk). walk_n s v 0 w i is ≡ left end) f.1 e)),
        )
    visits_ahead (suc j) (i ∷ is) n t end p g few rows h b e =
        let r = sym (walk_past s v is j (left t) p.prev i is) ∙ e in
        let f = unfailed (suc j) (stop_n false s v p.prev i (left t)) i is end r in
        let q = pass_by n t i p g (omega arith) rows.0 rested f.0 (rw (ne_eqb at p.place (λ z. omega (arith, g.place)))) f.1 in
        rw (eqb-suc-suc (suc j) 0 ∙ eqb-suc-zero j, suc-sub-suc (suc j) 0 ∙ sub-zero (suc j)) (
          visit n t i p g (omega arith) rows.0 rested false f.0 f.1 q,
          subst (λ (w : Walk). VisitsExact s v rested (visited_of s rested p i) (suc j) w is) (sym f.1)
              (visits_ahead j is (suc n) f.0 end (visited_of s rested p i) q (omega arith) rows.1 (omega arith) (subst (λ (w : Walk). Is (rest_start_n s v (suc j) w i is) start) f.1 b) (subst (λ (w : Walk). walk_n s v (suc j) w i is ≡ left end) f.1 r)),
        )

-- ---- the whole round
-- a rest at home does not matter at any stop
past_stops : (s : List ℕ) (v : ℕ) (w : Walk) (prev : ℕ) (is : List ℕ) → walk_n s v (suc (length is)) w prev is ≡ walk_n s v 0 w prev is
unfolding walk_n
past_stops s v w prev [] = refl
past_stops s v w prev (i ∷ is) = walk_past s v is (length is) w prev i is ∙ past_stops s v (stop_n false s v prev i w) i is

-- a walk that comes home with its rest comes home
comes_home : (s : List ℕ) (v : ℕ) (is : List ℕ) (place time : ℕ) → duration_with s v place is ≡ left time → (end : ℕ) × (duration_n s v place is ≡ left end)
comes_home s v is place time e = go (eqb place (suc (length is))) refl e
  where
    unrested : (w : Walk) → rested_at_home s v w ≡ left time → (end : ℕ) × (w ≡ left end)
    unrested failed f = absurd (gone time f)
    unrested (left t) f = (t, refl)

    go : (t : Bool) → eqb place (suc (length is)) ≡ t → cond t (rested_at_home s v (duration_n s v 0 is)) (duration_n s v place is) ≡ left time → (end : ℕ) × (duration_n s v place is ≡ left end)
    go false h f = (time, f)
    go true h f =
        let u = unrested (duration_n s v 0 is) f in
        (u.0, ap (λ (n : ℕ). duration_n s v n is) (eqb→eq place (suc (length is)) (subst T (sym h) tt)) ∙ past_stops s v (left 0) (home_of s v) is ∙ u.1)

-- the rest that a record takes lasts as long as the vehicle's
lasts : (s : List ℕ) (v : ℕ) (mark : Bool) (x : Verdict) (at : ℕ) (start : Float) → (placed_by (rest_of mark (break_of s v)) x).answer ≡ Some (at, start)
    → (placed_by (rest_of mark (break_of s v)) x).duration ≡ (break_of s v).duration
lasts s v true x at start e = refl
lasts s v false x at start e = cc

module _ (s : List ℕ) (v : ℕ) (is : List ℕ) (whole : Whole s) (is-vehicle : v < vehicles_of s) (round : Routed s (home_of s v) is) where
  begins : Going s v round.sheet whole is-vehicle 0 0 (begin_of (home_of s v))
  begins = record { place = refl; from = round.home; time = nought_is; early = zero-le }

  by : (r : RestAnswer) (d : Float) → ((at : ℕ) (start : Float) → r ≡ Some (at, start) → d ≡ (break_of s v).duration) → RestExact s v is r → (end : ℕ) → duration_n s v (rest_place r) is ≡ left end
      → VisitsExact s v (record { answer = r; duration = d }) (begin_of (home_of s v)) (rest_place r) (left 0) is
  unfolding ready_for
  by None d f x end e =
      visits_past s v round.sheet whole is-vehicle (record { answer = None; duration = d }) is 0 0 end (begin_of (home_of s v)) begins (omega (arith, round.few)) (rows_of_lem s is round.row) (λ m y h. refl) e
  by (Some (zero, start)) d f x end e =
      visits_past s v round.sheet whole is-vehicle (record { answer = Some (zero, start); duration = d }) is 0 0 end (begin_of (home_of s v)) begins (omega (arith, round.few)) (rows_of_lem s is round.row)
      (λ m y h. rw (ne_eqb 0 m (λ z. omega arith))) e
  by (Some ((suc j), start)) d f x end e =
      subst (λ (l : Float). VisitsExact s v (record { answer = Some ((suc j), start); duration = l }) (begin_of (home_of s v)) (suc j) (left 0) is) (sym (f (suc j) start refl))
      (visits_ahead s v round.sheet whole is-vehicle (suc j) start j is 0 0 end (begin_of (home_of s v)) begins (omega (arith, round.few)) (rows_of_lem s is round.row) (omega arith) x.start e)

  pub visits_exact : T (lawful s v is) → VisitsExact s v (placed_of s (home_of s v) (limits_at s v) is) (begin_of (home_of s v)) (rest_place (placed_of s (home_of s v) (limits_at s v) is).answer) (left 0) is
  unfolding placed_of build_route record_of vehicle_of rest_after
  visits_exact t =
      let k = record_exact s v is whole is-vehicle round t in
      let p = placed_of s (home_of s v) (limits_at s v) is in
      let home = comes_home s v is (rest_place p.answer) k.time k.walk in
      by p.answer p.duration
      (subst (λ (r : Option VehicleBreak). (at : ℕ) (start : Float) → (placed_by r (verdict_on s (home_of s v) (limits_at s v) is)).answer ≡ Some (at, start) → (placed_by r (verdict_on s (home_of s v) (limits_at s v) is)).duration ≡ (break_of s v).duration)
      (sym (limits_rest s v)) (lasts s v (rests s v) (verdict_on s (home_of s v) (limits_at s v) is)))
      k.rest home.0 home.1

-- the load, of any round at all
load_after : (s : List ℕ) (t : Placed) (p : Progress) (is : List ℕ) → (progress_of s t p is).load ≡ p.load + load_n s is
unfolding visited_of load_n stop_of
load_after s t p [] = omega arith
load_after s t p (i ∷ is) = load_after s t (visited_of s t p i) is ∙ add_assoc p.load (demand_of s i) (load_n s is)

pub load_exact : (s : List ℕ) (depot : ℕ) (limits : RouteLimits) (is : List ℕ) → (build_route s depot limits is).load ≡ load_n s is
unfolding build_route record_of
load_exact s depot limits is = load_after s (placed_of s depot limits is) (begin_of depot) is ∙ zero-add (load_n s is)
