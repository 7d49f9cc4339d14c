-- "on whole numbers below 2^53 the sums are exact": the figures of a round's schedule and of its record are those of the walk over natural numbers
-- with the rest where they have it. Assumes nothing.
use Rattle.std.specs.Prelude.{◌≡◌, Bool, cond, ◌⊎◌, Option, Some, None, is_some}
use Rattle.std.proofs.Math.Path.{refl, sym, ap, subst}
use Rattle.std.proofs.Common.{◌∙◌, zero-add, add-zero, add_assoc, inl, inr, eq-eqb, ne_eqb, le-ltb}
use Prim.Native.Nat.{ℕ, suc, ◌+◌, ◌≤◌, ◌<◌, zero-le}
use native.Mathlib.Omega.{arith}
use Rattle.std.proofs.Math.Bool.{true, false}
use mathlib.Core.List.{List, [], ◌∷◌}
use Rattle.std.proofs.Math.Dec.{T, leb→le}
use Rattle.std.proofs.Math.ListN.{length}
use Rattle.std.specs.Float.Ieee.{Float, binary64, fits, lt, le}
use Rattle.std.specs.Float.Ieee.Fits.{and_l, add-fits, cond-fits}
use Rattle.std.specs.Float.Ieee.Bits.{of_bits-fits}
use Rattle.wire.specs.Bytes.{f64_at}
use Rattle.sheet.specs.Fields.{rows_of, vehicles_of, most_rows}
use Rattle.sheet.specs.Accepted.{Accepted}
use Rattle.sheet.specs.Values.{nought, distance_of, time_of, stop_of, rest_of, rest_after, vehicle_of}
use Rattle.sheet.specs.declared.vehicle.VehicleBreak.{VehicleBreak}
use Rattle.evaluation_clock.specs.declared.label.Label.{Label}
use Rattle.evaluation_clock.specs.RestAnswer.{RestAnswer}
use Rattle.evaluation_clock.specs.declared.clock.Schedule.{Schedule}
use Rattle.evaluation_clock.specs.Sums.{◌⊕◌}
use Rattle.evaluation.specs.Routed.{Routed}
use Rattle.evaluation.specs.Limits.{limits_at}
use Rattle.evaluation.specs.Laws.Limits.{limits_rest}
use Rattle.evaluation.specs.Verdict.{home_start, mends, rested_home}
use Rattle.evaluation.specs.Feasible.{route_eval}
use Rattle.evaluation.specs.Laws.Walk.{plain_walk}
use Rattle.evaluation.specs.Laws.Verdict.{Mended, allowed_feasible, allowed_figures}
use Rattle.evaluation_clock.specs.Serve.{rest_place, at_depot, rested_at, later_of, pass, serve_of, serve_rested}
use Rattle.evaluation_clock.specs.Clock.{step_of, step_rested, taken_of, moved_of, home_schedule, unrested, end_of, homeward, returned}
use Rattle.evaluation.specs.Walk.{Position, start_at, drive_to, walked_over, home_from, scheduled_of}
use Rattle.evaluator.specs.Record.{build_route}
use Rattle.evaluator.specs.Laws.Agree.{IfDone, either, not_done, passed, figures, eval_agree}
use Rattle.lawful.specs.Whole.{Whole, Is}
use Rattle.lawful.specs.Lawful.{Walk, failed, left, later, time_n, distance_n, home_of, rests, earliest_n, latest_n, rest_n, stop_n, walk_n, duration_n, travel_n, rested_at_home, lawful}
use Rattle.lawful.specs.Figures.{rest_start_n, duration_with, RestExact, FiguresExact}
use Rattle.lawful.specs.Laws.Whole.{later_whole}
use Rattle.lawful.specs.Laws.Amounts.{Amount, RestAmounts, row_amounts, rest_amounts, distance_amount, time_amount}
use Rattle.lawful.specs.Laws.Windows.{Tracks, Same, nought_is}
use Rattle.lawful.specs.Laws.Stops.{break_of, arrival, step_same, step_rested_lem}
use Rattle.lawful.specs.Laws.Places.{walk_past}
use Rattle.lawful.specs.Laws.Rounds.{Comes, Rows, Driven, drive, home_time, home_starts, home_by, home_ends, position_at}
use Rattle.lawful.specs.Laws.Meaning.{rows_of_lem, start, undriven, unrested_comes, feasible_lawful}

-- a walk that has not failed
pub gone : (t : ℕ) → failed ≡ left t → ⊥
gone t e = let z : ◌≡◌ {A = ℕ} 0 1 = cc in omega arith

-- ---- a stop keeps the rest that a label has
module _ (l : Label) (travel : Float) (i : ℕ) (s : List ℕ) where
  step_keeps : (m : Label) → serve_of l travel (stop_of s i) ≡ Some m → m.rest ≡ l.rest
  unfolding serve_of
  step_keeps m e = sym (passed (stop_of s i).gate (l.time ⊕ travel) (stop_of s i).service l m e).rest

  rested_keeps : (b : VehicleBreak) (place : ℕ) (m : Label) → serve_rested l travel (stop_of s i) place b ≡ Some m → m.rest ≡ Some (place, (later_of (l.time ⊕ travel) b.earliest))
  unfolding serve_rested
  rested_keeps b place m e = go (lt b.latest start) e
    where
      start : Float
      start = later_of (l.time ⊕ travel) b.earliest

      go : (t : Bool) → cond t None (pass (rested_at l place start) (start ⊕ b.duration) (stop_of s i).service (stop_of s i).gate) ≡ Some m → m.rest ≡ Some (place, start)
      go true e = absurd (not_done m e)
      go false e = sym (passed (stop_of s i).gate (start ⊕ b.duration) (stop_of s i).service (rested_at l place start) m e).rest

-- ---- the rest before a stop or none, and at home
with_before : (s : List ℕ) (v : ℕ) (is : List ℕ) (place : ℕ) → place ≤ length is → duration_with s v place is ≡ duration_n s v place is
with_before s v is place h = rw (ne_eqb place (suc (length is)) (λ e. omega (arith, h, e)))

with_home : (s : List ℕ) (v : ℕ) (is : List ℕ) → duration_with s v (suc (length is)) is ≡ rested_at_home s v (duration_n s v 0 is)
with_home s v is = rw (eq-eqb (suc (length is)) (suc (length is)) refl)

-- it starts at the later of the return and earliest
home_start_lem : (s : List ℕ) (v : ℕ) (w : Walk) (prev : ℕ) (is : List ℕ) (t : ℕ) → walk_n s v 0 w prev is ≡ left t → rest_start_n s v (suc (length is)) w prev is ≡ later t (earliest_n s v)
unfolding rest_start_n walk_n
home_start_lem s v failed prev [] t e = absurd (gone t e)
home_start_lem s v (left u) prev [] t e = ap (λ (n : ℕ). later n (earliest_n s v)) (same_end e)
  where
    same_end : left (u + time_n s prev (home_of s v)) ≡ left t → u + time_n s prev (home_of s v) ≡ t
    same_end q = cc
home_start_lem s v w prev (i ∷ is) t e = home_start_lem s v (stop_n false s v prev i w) i is t e

module _ (s : List ℕ) (v : ℕ) (round : List ℕ) where
  -- after n stops, with these left: what every walk with the rest further on comes to, or with none
  record Ahead (n : ℕ) (w : Walk) (prev : ℕ) (is : List ℕ) : Type 0 where
    none : duration_n s v 0 round ≡ walk_n s v 0 w prev is
    walks : (j : ℕ) → duration_n s v (suc n + j) round ≡ walk_n s v (suc j) w prev is
    starts : (j : ℕ) → rest_start_n s v (suc n + j) (left 0) (home_of s v) round ≡ rest_start_n s v (suc j) w prev is

  -- and the one with the rest where a label has it
  record Behind (n prev : ℕ) (is : List ℕ) (l : Label) : Type 0 where
    past : rest_place l.rest ≤ n
    time : ℕ
    tracks : Tracks n time l
    walk : duration_n s v (rest_place l.rest) round ≡ walk_n s v 0 (left time) prev is
    rest : RestExact s v round l.rest

  ahead_next : (n : ℕ) (w : Walk) (prev i : ℕ) (is : List ℕ) → Ahead n w prev (i ∷ is) → Ahead (suc n) (stop_n false s v prev i w) i is
  unfolding walk_n rest_start_n
  ahead_next n w prev i is k = record {
    none = k.none;
    walks = λ j. ap (λ (m : ℕ). duration_n s v m round) (omega arith) ∙ k.walks (suc j) ∙ walk_past s v round j w prev i is;
    starts = λ j. let e : suc (suc n) + j ≡ suc n + suc j = omega arith in ap (λ (m : ℕ). rest_start_n s v m (left 0) (home_of s v) round) e ∙ k.starts (suc j);
  }

  -- a label after one stop more, whose rest stands as `r` says
  behind_next : (n i : ℕ) (is : List ℕ) (r : RestAnswer) (w : Walk) (z : Option Label) → rest_place r ≤ n → Same n w z → duration_n s v (rest_place r) round ≡ walk_n s v 0 w i is → RestExact s v round r
      → ((m : Label) → z ≡ Some m → m.rest ≡ r) → IfDone (Behind n i is) z
  behind_next n i is r failed None p u e x f = tt
  behind_next n i is r failed (Some m) p u e x f = absurd u
  behind_next n i is r (left t) None p u e x f = absurd u
  behind_next n i is r (left t) (Some m) p u e x f =
      let q = sym (f m refl) in
      record { past = subst (λ (y : RestAnswer). rest_place y ≤ n) q p; time = t; tracks = u; walk = subst (λ (y : RestAnswer). duration_n s v (rest_place y) round ≡ walk_n s v 0 (left t) i is) q e; rest = subst (RestExact s v round) q x }

  module _ (a : Accepted s) (whole : Whole s) (is-vehicle : v < vehicles_of s) (at_home : home_of s v < rows_of s) where
    resting : RestAmounts s v
    resting = rest_amounts s a whole v is-vehicle

    -- ---- one stop further
    module _ (n prev i : ℕ) (is : List ℕ) (few : n ≤ most_rows) (from : prev < rows_of s) (to : i < rows_of s) where
      leg : Amount (time_n s prev i) (time_of s prev i)
      leg = time_amount s a whole prev i from to

      carried : (y : Option Label) → IfDone (Behind n prev (i ∷ is)) y → IfDone (Behind (suc n) i is) (step_of y (time_of s prev i) (stop_of s i))
      unfolding step_of walk_n
      carried None b = tt
      carried (Some l) b =
          behind_next (suc n) i is l.rest (stop_n false s v prev i (left b.time)) _ (omega (arith, b.past))
          (step_same s v i (row_amounts s a whole i to) resting n few prev leg (left b.time) (Some l) b.tracks) b.walk b.rest (step_keeps l (time_of s prev i) i s)

      here : (w : Walk) (x : Option Label) → Same n w x → Ahead n w prev (i ∷ is) → IfDone (Behind (suc n) i is) (step_rested x (time_of s prev i) (stop_of s i) (suc n) (break_of s v))
      unfolding step_rested walk_n rest_start_n f64_at
      here w None u k = tt
      here failed (Some l) u k = absurd u
      here (left t) (Some l) u k =
          let begins = later_of (l.time ⊕ time_of s prev i) (break_of s v).earliest in
          behind_next (suc n) i is (Some ((suc n), begins)) (stop_n true s v prev i (left t)) _ (omega arith)
          (step_rested_lem s v i (row_amounts s a whole i to) resting n few prev leg (suc n) (left t) (Some l) u)
          (sym (ap (λ (m : ℕ). duration_n s v m round) (add-zero (suc n))) ∙ k.walks 0)
          (record {
            start = subst (λ (m : ℕ). Is m begins) (sym (sym (ap (λ (m : ℕ). rest_start_n s v m (left 0) (home_of s v) round) (add-zero (suc n))) ∙ k.starts 0))
                (later_whole (t + time_n s prev i) (earliest_n s v) (l.time ⊕ time_of s prev i) (break_of s v).earliest
                (arrival s v i (row_amounts s a whole i to) resting n few t (time_n s prev i) l (time_of s prev i) u leg) resting.earliest.is);
            written = cond-fits binary64 (lt (l.time ⊕ time_of s prev i) (break_of s v).earliest) (break_of s v).earliest (l.time ⊕ time_of s prev i) (of_bits-fits binary64 _) (add-fits binary64 _ _);
          })
          (rested_keeps l (time_of s prev i) i s (break_of s v) (suc n))

      taken : (mark : Bool) (w : Walk) (x y : Option Label) → Same n w x → Ahead n w prev (i ∷ is) → IfDone (Behind n prev (i ∷ is)) y
          → IfDone (Behind (suc n) i is) (taken_of (rest_of mark (break_of s v)) x y (time_of s prev i) (stop_of s i) (suc n))
      unfolding taken_of
      taken false w x y u k b = tt
      taken true w x y u k b =
          either (Behind (suc n) i is) (step_of y (time_of s prev i) (stop_of s i)) (step_rested x (time_of s prev i) (stop_of s i) (suc n) (break_of s v)) (carried y b) (here w x u k)

    -- ---- home
    -- a schedule's figures, `far` being the distance; none where there is none
    abbrev Ends : ℕ → Option Schedule → Type 0
    Ends far None = Unit
    Ends far (Some k) = far ≡ travel_n s v (home_of s v) round → FiguresExact s v round k

    module _ (n far prev : ℕ) (few : n ≤ most_rows) (all : n ≡ length round) (distance : Float) (from : prev < rows_of s) (total : Is far distance) where
      abbrev back : Float
      back = time_of s prev (home_of s v)

      home_behind : (l : Label) → Behind n prev [] l → Ends far (Some (home_schedule l distance back l.rest))
      unfolding walk_n
      home_behind l b e = record {
        place = omega (arith, b.past);
        time = b.time + time_n s prev (home_of s v);
        walk = with_before s v round (rest_place l.rest) (omega (arith, b.past)) ∙ b.walk;
        duration = home_time s v a whole is-vehicle at_home n far prev few distance from total b.time l b.tracks;
        distance = subst (λ (m : ℕ). Is m distance) e total;
        rest = b.rest;
      }

      home_ahead : (w : Walk) (l : Label) → Same n w (Some l) → Ahead n w prev [] → Ends far (Some (home_schedule l distance back None))
      unfolding walk_n rest_start_n
      home_ahead failed l u k e = absurd u
      home_ahead (left t) l u k e = record {
        place = zero-le;
        time = t + time_n s prev (home_of s v);
        walk = with_before s v round 0 zero-le ∙ k.none;
        duration = home_time s v a whole is-vehicle at_home n far prev few distance from total t l u;
        distance = subst (λ (m : ℕ). Is m distance) e total;
        rest = record { start = nought_is; written = of_bits-fits binary64 0 };
      }

      home_rested : (y : Option Label) → IfDone (Behind n prev []) y → Ends far (end_of y distance back)
      unfolding end_of
      home_rested None b = tt
      home_rested (Some l) b = home_behind l b

      home_exact : (mark : Bool) (w : Walk) (x y : Option Label) → Same n w x → Ahead n w prev [] → IfDone (Behind n prev []) y → Ends far (returned (rest_of mark (break_of s v)) x y distance back)
      unfolding returned unrested homeward
      home_exact false w None y u k b = tt
      home_exact false w (Some l) y u k b = home_ahead w l u k
      home_exact true w None y u k b = home_rested y b
      home_exact true w (Some l) y u k b = go (le (l.time ⊕ back) (break_of s v).earliest)
        where
          go : (t : Bool) → Ends far (cond t (Some (home_schedule l distance back None)) (end_of y distance back))
          go true = home_ahead w l u k
          go false = home_rested y b

    walk_exact : (mark : Bool) (n d place prev : ℕ) (w : Walk) (x y : Option Label) (distance : Float) (is : List ℕ) → n + length is ≤ most_rows → n + length is ≡ length round → place ≡ suc n → prev < rows_of s → Rows s is
        → Same n w x → Ahead n w prev is → IfDone (Behind n prev is) y → Driven n d distance
        → Ends (d + travel_n s v prev is) (home_from s (home_of s v) (walked_over s (position_at (rest_of mark (break_of s v)) place prev x y distance) is))
    unfolding home_from drive_to moved_of travel_n
    walk_exact mark n d place prev w x y distance [] few all h from rows u k b r =
        home_exact n _ prev (omega arith) (omega arith) _ from (drive n d (distance_n s prev (home_of s v)) distance _ (omega arith) r (distance_amount s a whole prev (home_of s v) from at_home)).is mark w x y u k b
    walk_exact mark n d place prev w x y distance (i ∷ is) few all h from rows u k b r =
        let leg = time_amount s a whole prev i from rows.0 in
        rw (← add_assoc)
        (walk_exact mark (suc n) (d + distance_n s prev i) (place + 1) i (stop_n false s v prev i w) (step_of x (time_of s prev i) (stop_of s i)) (taken_of (rest_of mark (break_of s v)) x y (time_of s prev i) (stop_of s i) place) (distance ⊕ distance_of s prev i) is
        (omega arith) (omega arith) (omega arith) rows.0 rows.1
        (step_same s v i (row_amounts s a whole i rows.0) resting n (omega arith) prev leg w x u)
        (ahead_next n w prev i is k)
        (subst (λ (p : ℕ). IfDone (Behind (suc n) i is) (taken_of (rest_of mark (break_of s v)) x y (time_of s prev i) (stop_of s i) p)) (sym h) (taken n prev i is (omega arith) from rows.0 mark w x y u k b))
        (drive n d (distance_n s prev i) distance (distance_of s prev i) (omega arith) r (distance_amount s a whole prev i from rows.0)))

-- ---- the whole round
-- a duration is one that bits stand for
abbrev writable : Option Schedule → Bool
writable None = true
writable (Some k) = fits binary64 k.duration

same_rest : (mark : Bool) (b c : VehicleBreak) → rest_of mark b ≡ Some c → b ≡ c
same_rest true b c e = cc
same_rest false b c e = let z : ◌≡◌ {A = ℕ} 0 1 = cc in absurd (omega arith)

module _ (s : List ℕ) (v : ℕ) (is : List ℕ) (whole : Whole s) (is-vehicle : v < vehicles_of s) (round : Routed s (home_of s v) is) where
  pub schedule_exact : (k : Schedule) → scheduled_of s (home_of s v) (limits_at s v).rest is ≡ Some k → FiguresExact s v is k
  unfolding scheduled_of vehicle_of rest_after
  schedule_exact k e =
      subst (Ends s v is round.sheet whole is-vehicle round.home (0 + travel_n s v (home_of s v) is))
      (sym (ap (λ (r : Option VehicleBreak). scheduled_of s (home_of s v) r is) (limits_rest s v)) ∙ e)
      (walk_exact s v is round.sheet whole is-vehicle round.home (rests s v) 0 0 1 (home_of s v) (left 0) (Some at_depot) None nought is (omega (arith, round.few)) (zero-add (length is)) refl round.home
      (rows_of_lem s is round.row) (start s v is whole is-vehicle round)
      (record { none = refl; walks = λ j. ap (λ (m : ℕ). duration_n s v m is) (omega arith); starts = λ j. ap (λ (m : ℕ). rest_start_n s v m (left 0) (home_of s v) is) (omega arith) }) tt
      (undriven s v is whole is-vehicle round))
      (zero-add (travel_n s v (home_of s v) is))

  -- a round that the rest at home mends: the walk without a rest, and then the rest
  module _ (j : Schedule) (walked : scheduled_of s (home_of s v) None is ≡ Some j) (fit : mends (limits_at s v) (break_of s v) j.distance j.duration ≡ true) where
    return_fits : T (writable (Some j))
    unfolding unrested
    return_fits = go p.clock.before (plain_walk s (home_of s v) None is ∙ walked)
      where
        p : Position
        p = walked_over s (start_at None (home_of s v)) is

        go : (x : Option Label) → unrested x (p.distance ⊕ distance_of s p.clock.prev (home_of s v)) (time_of s p.clock.prev (home_of s v)) ≡ Some j → T (writable (Some j))
        go None e = let z : ◌≡◌ {A = ℕ} 0 1 = cc in absurd (omega arith)
        go (Some l) e = subst (λ (x : Option Schedule). T (writable x)) e (add-fits binary64 _ _)

    home_figures : FiguresExact s v is (rested_home (break_of s v) (suc (length is)) j)
    unfolding mends f64_at
    home_figures = go (duration_n s v 0 is) refl (subst (Comes (travel_n s v (home_of s v) is) (duration_n s v 0 is)) walked (unrested_comes s v is whole is-vehicle round))
      where
        go : (w : Walk) → duration_n s v 0 is ≡ w → Comes (travel_n s v (home_of s v) is) w (Some j) → FiguresExact s v is (rested_home (break_of s v) (suc (length is)) j)
        go failed e u = absurd u
        go (left t) e u =
            let back = j.duration in
            let begins = later t (earliest_n s v) in
            let soon = leb→le begins (latest_n s v) (subst T (home_by s v round.sheet whole is-vehicle round.home t back u.0) (and_l (le (home_start (break_of s v) back) (break_of s v).latest) _ (subst T (sym fit) tt))) in
            record {
              place = omega arith;
              time = begins + rest_n s v;
              walk = with_home s v is ∙ ap (rested_at_home s v) e ∙ rw (le-ltb (latest_n s v) begins soon);
              duration = home_ends s v round.sheet whole is-vehicle round.home t back u.0 soon;
              distance = u.1;
              rest = record {
                start = subst (λ (n : ℕ). Is n (home_start (break_of s v) back)) (sym (home_start_lem s v (left 0) (home_of s v) is t e)) (home_starts s v round.sheet whole is-vehicle round.home t back u.0);
                written = cond-fits binary64 (lt back (break_of s v).earliest) (break_of s v).earliest back (of_bits-fits binary64 _) return_fits;
              };
            }

  mended_exact : (k : Schedule) → Mended (limits_at s v) (limits_at s v).rest (1 + length is) (scheduled_of s (home_of s v) None is) k → FiguresExact s v is k
  unfolding vehicle_of rest_after
  mended_exact k m =
      let same : break_of s v ≡ m.b = same_rest (rests s v) (break_of s v) m.b (sym (limits_rest s v) ∙ m.resting) in
      let last : suc (length is) ≡ 1 + length is = omega arith in
      subst (FiguresExact s v is) (ap (λ (n : ℕ). rested_home (break_of s v) n m.j) last ∙ ap (λ (b : VehicleBreak). rested_home b (1 + length is) m.j) same ∙ m.is)
      (home_figures m.j m.walked (ap (λ (b : VehicleBreak). mends (limits_at s v) b m.j.distance m.j.duration) same ∙ m.fits))

  -- what `build_route` writes down of a round that has a lawful schedule
  pub record_exact : T (lawful s v is) → FiguresExact s v is (figures (build_route s (home_of s v) (limits_at s v) is))
  record_exact t = go (route_eval s (home_of s v) (limits_at s v) is) refl (allowed_feasible s (home_of s v) (limits_at s v) is ∙ feasible_lawful s v is whole is-vehicle round)
    where
      by : (k : Schedule) → (scheduled_of s (home_of s v) (limits_at s v).rest is ≡ Some k) ⊎ Mended (limits_at s v) (limits_at s v).rest (1 + length is) (scheduled_of s (home_of s v) None is) k → FiguresExact s v is k
      by k (inl e) = schedule_exact k e
      by k (inr m) = mended_exact k m

      go : (r : Option Schedule) → route_eval s (home_of s v) (limits_at s v) is ≡ r → is_some r ≡ lawful s v is → FiguresExact s v is (figures (build_route s (home_of s v) (limits_at s v) is))
      go None e f = absurd (subst T (sym f) t)
      go (Some k) e f =
          subst (FiguresExact s v is) (sym (eval_agree s (home_of s v) (limits_at s v) is k e)) (by k (allowed_figures s (home_of s v) (limits_at s v) is k e))
