-- What the reasons 3 to 6 say of a lone round: it is not feasible, and it is where none of them holds. Assumes nothing.
use Rattle.std.specs.Prelude.{◌≡◌, refl, ℕ, ◌*◌, ◌^◌, ◌↔◌, Bool, true, false, not, ◌&&◌, ◌||◌, cond, List, [], ◌∷◌, T, Float, Option, Some, None}
use Rattle.std.proofs.Common.{sym, ap, ◌∙◌, subst, arith, true≢false, le-ltb}
use Rattle.std.proofs.Math.Bool.{or-true}
use Rattle.std.proofs.lemmas.Bool.{not-false}
use Rattle.std.specs.Float.{nan, inf, fin, binary64}
use Rattle.std.specs.Float.Ieee.{up, down, lt, eq, le}
use Rattle.std.specs.Float.Ieee.Fits.{add-fits}
use Rattle.numbers.specs.Laws.Upto.{Upto, exact, or_le, add_upto, pick_upto, lt→le}
use Rattle.numbers.specs.Laws.Order.{le_through, not_below_le, below_sum}
use Rattle.numbers.specs.Laws.Range.{zero_upto}
use Rattle.sheet.specs.Accepted.{Accepted}
use Rattle.sheet.specs.Values.{nought, stop_of, distance_of, time_of}
use Rattle.sheet.specs.Laws.Finite.{GateBounded, BreakBounded, RestBounded, stop_bounded, vehicle_bounded, time_bounded}
use Rattle.sheet.specs.declared.customer.Gate.{Gate}
use Rattle.sheet.specs.declared.customer.Gate.TheVariants.{Open, Hard, Soft}
use Rattle.sheet.specs.declared.vehicle.VehicleBreak.{VehicleBreak}
use Rattle.evaluation_clock.specs.declared.label.Label.{Label}
use Rattle.evaluation_clock.specs.declared.clock.Schedule.{Schedule}
use Rattle.evaluation_clock.specs.Sums.{◌⊕◌}
use Rattle.evaluation_clock.specs.Window.{violated_of}
use Rattle.evaluation_clock.specs.Serve.{at_depot, rested_at, later_of, pass, visit_of, serve_of, serve_rested}
use Rattle.evaluation_clock.specs.Clock.{Clock, started, step_of, step_rested, earlier_of, taken_of, moved_of, next_of, home_schedule, unrested, end_of, homeward, returned, finish_of}
use Rattle.evaluation.specs.declared.limits.RouteLimits.{RouteLimits}
use Rattle.evaluation.specs.Limits.{limits_at, within_of, allow_of}
use Rattle.evaluation.specs.Walk.{start_at}
use Rattle.evaluation.specs.Verdict.{Verdict, allowed, over_limit, no_schedule, held_to, home_start, mends, rested_home, mended, or_home, verdict_of, is_feasible}
use Rattle.evaluation.specs.Feasible.{route_feasible}
use Rattle.evaluation.specs.Laws.Limits.{limits_rest}
use Rattle.evaluation.specs.Laws.Verdict.{held_none, held_passes, longer_feasible}
use Rattle.multi_depot_offers.specs.Laws.Settled.{and_first, and_second}
use Rattle.reason.specs.Asked.{Lone}
use Rattle.reason.specs.Reason.{misses_hard, window_missed, without_maxima, without_max_distance, no_rest_place, over_distance, over_duration, walked_reason}

-- ---- the limits are asked of a duration alone: that of the walk, or that with the rest at home
module _ (home : Bool) (keeps : Float → Bool) where
  abbrev walk_keeps : Option Schedule → Bool
  walk_keeps None = false
  walk_keeps (Some k) = keeps k.duration

  abbrev home_keeps : Option VehicleBreak → Option Schedule → Bool
  home_keeps None plain = false
  home_keeps (Some b) None = false
  home_keeps (Some b) (Some k) = home && (le (home_start b k.duration) b.latest && keeps (home_start b k.duration ⊕ b.duration))

  -- on a clock brought home
  abbrev one_keeps : Clock → Float → Float → Bool
  one_keeps c distance back = walk_keeps (finish_of c distance back) || home_keeps c.rest (unrested c.before distance back)

-- the duration that is kept, by whatever else keeps it
record Kept (home : Bool) (keeps : Float → Bool) (c : Clock) (distance back : Float) : Type 0 where
  duration : Float
  kept : keeps duration ≡ true
  by : (f : Float → Bool) → f duration ≡ true → one_keeps home f c distance back ≡ true

module _ (home : Bool) (keeps : Float → Bool) (c : Clock) (distance back : Float) where
  kept_on_walk : (x : Option Schedule) → finish_of c distance back ≡ x → walk_keeps home keeps x ≡ true → Kept home keeps c distance back
  kept_on_walk None e t = absurd (true≢false (sym t))
  kept_on_walk (Some k) e t = record { duration = k.duration; kept = t; by = λ f u. rw (e, u) refl }

  kept_at_home : (rest : Option VehicleBreak) (plain : Option Schedule) → c.rest ≡ rest → unrested c.before distance back ≡ plain → home_keeps home keeps rest plain ≡ true → Kept home keeps c distance back
  kept_at_home None plain r e t = absurd (true≢false (sym t))
  kept_at_home (Some b) None r e t = absurd (true≢false (sym t))
  kept_at_home (Some b) (Some k) r e t =
      let m = and_second home _ t in
      record {
        duration = home_start b k.duration ⊕ b.duration;
        kept = and_second (le (home_start b k.duration) b.latest) _ m;
        by = λ f u. rw (r, e, and_first home _ t, and_first (le (home_start b k.duration) b.latest) _ m, u) (or-true _);
      }

  one_kept : one_keeps home keeps c distance back ≡ true → Kept home keeps c distance back
  one_kept t = go (walk_keeps home keeps (finish_of c distance back)) refl t
    where
      go : (w : Bool) → walk_keeps home keeps (finish_of c distance back) ≡ w → (w || home_keeps home keeps c.rest (unrested c.before distance back)) ≡ true → Kept home keeps c distance back
      go true e t = kept_on_walk (finish_of c distance back) refl e
      go false e t = kept_at_home c.rest (unrested c.before distance back) refl refl t

-- ---- since the legs driven are the same
abbrev Drives : Float → Option Schedule → Type 0
Drives distance (Some k) = k.distance ≡ distance
Drives distance None = Unit

end_drives : (x : Option Label) (distance back : Float) → Drives distance (end_of x distance back)
unfolding end_of
end_drives (Some l) distance back = refl
end_drives None distance back = tt

plain_drives : (x : Option Label) (distance back : Float) → Drives distance (unrested x distance back)
unfolding unrested
plain_drives (Some l) distance back = refl
plain_drives None distance back = tt

home_drives : (rest : Option VehicleBreak) (x y : Option Label) (distance back : Float) → Drives distance (returned rest x y distance back)
unfolding returned homeward
home_drives None x y distance back = plain_drives x distance back
home_drives (Some b) None y distance back = end_drives y distance back
home_drives (Some b) (Some l) y distance back = go (le (l.time ⊕ back) b.earliest)
  where
    go : (t : Bool) → Drives distance (cond t (Some (home_schedule l distance back None)) (end_of y distance back))
    go true = refl
    go false = end_drives y distance back

module _ (limits : RouteLimits) (distance : Float) where
  held_keeps : (x : Option Schedule) → Drives distance x → is_feasible (held_to limits x) ≡ walk_keeps limits.at_home (allow_of limits distance) x
  held_keeps None d = ap is_feasible (held_none limits)
  held_keeps (Some k) d = held_passes limits k ∙ ap (λ (z : Float). allow_of limits z k.duration) d

  mended_keeps : (rest : Option VehicleBreak) (place : ℕ) (plain : Option Schedule) (v : Verdict) → Drives distance plain → is_feasible v ≡ false → is_feasible (mended limits rest place plain v) ≡ home_keeps limits.at_home (allow_of limits distance) rest plain
  unfolding mends
  mended_keeps None place plain v d n = n
  mended_keeps (Some b) place None v d n = go limits.at_home
    where
      go : (h : Bool) → is_feasible (cond h v v) ≡ false
      go true = n
      go false = n
  mended_keeps (Some b) place (Some k) v d n =
      go limits.at_home (mends limits b k.distance k.duration)
      ∙ ap (λ (z : Float). limits.at_home && (le (home_start b k.duration) b.latest && allow_of limits z (home_start b k.duration ⊕ b.duration))) d
    where
      go : (h m : Bool) → is_feasible (cond h (cond m (allowed (rested_home b place k)) v) v) ≡ (h && m)
      go true true = refl
      go true false = n
      go false m = n

  or_home_keeps : (rest : Option VehicleBreak) (place : ℕ) (plain : Option Schedule) (v : Verdict) → Drives distance plain → is_feasible (or_home limits rest place plain v) ≡ (is_feasible v || home_keeps limits.at_home (allow_of limits distance) rest plain)
  unfolding or_home
  or_home_keeps rest place plain (allowed k) d = refl
  or_home_keeps rest place plain (over_limit k) d = mended_keeps rest place plain (over_limit k) d refl
  or_home_keeps rest place plain no_schedule d = mended_keeps rest place plain no_schedule d refl

  feasible_keeps : (c : Clock) (back : Float) → is_feasible (verdict_of limits c distance back) ≡ one_keeps limits.at_home (allow_of limits distance) c distance back
  unfolding verdict_of
  feasible_keeps c back =
      let plain = unrested c.before distance back in
      or_home_keeps c.rest c.place plain (held_to limits (finish_of c distance back)) (plain_drives c.before distance back)
      ∙ ap (λ (w : Bool). w || home_keeps limits.at_home (allow_of limits distance) c.rest plain) (held_keeps (finish_of c distance back) (home_drives c.rest c.before c.after distance back))

-- ---- 3: who misses a window misses it after a rest too
le_not_below : (a b : ℕ) (x y : Float) → Upto a x → Upto b y → T (le x y) → lt y x ≡ false
unfolding lt eq le
le_not_below a b nan y u v h = absurd u
le_not_below a b (inf s) y u v h = absurd u
le_not_below a b (fin true m e) y u v h = absurd u
le_not_below a b (fin false m e) nan u v h = absurd v
le_not_below a b (fin false m e) (inf s) u v h = absurd v
le_not_below a b (fin false m e) (fin true k d) u v h = absurd v
le_not_below a b (fin false m e) (fin false k d) u v h = le-ltb (k * up d * down e) (m * up e * down d) (or_le (m * up e * down d) (k * up d * down e) h)

later_misses : (g : Gate) (a b : ℕ) (x y : Float) → GateBounded g → Upto a x → Upto b y → T (le x y) → misses_hard g x ≡ true → misses_hard g y ≡ true
unfolding violated_of
later_misses Open a b x y ok u v h e = e
later_misses (Soft w p) a b x y ok u v h e = e
later_misses (Hard w) a b x y ok u v h e = go (lt w.due y) refl
  where
    go : (t : Bool) → lt w.due y ≡ t → t ≡ true
    go true f = refl
    go false f = absurd (true≢false (sym e ∙ le_not_below a (10 ^ 9) x w.due u ok.due (le_through a b (10 ^ 9) x y w.due u v ok.due h (not_below_le b (10 ^ 9) y w.due v ok.due f))))

missed_refused : (l : Label) (arrival service : Float) (g : Gate) → misses_hard g arrival ≡ true → pass l arrival service g ≡ None
unfolding pass
missed_refused l arrival service Open e = absurd (true≢false (sym e))
missed_refused l arrival service (Hard w) e = rw e refl
missed_refused l arrival service (Soft w p) e = absurd (true≢false (sym e))

not_before : (n : ℕ) (x y : Float) → Upto n x → T (le x (later_of x y))
not_before n x y u = go (lt x y) refl
  where
    itself : (t : Bool) → lt x x ≡ t → T (le x x)
    itself true e = lt→le x x (subst T (sym e) tt)
    itself false e = not_below_le n n x x u u e

    go : (t : Bool) → lt x y ≡ t → T (le x (cond t y x))
    go true e = lt→le x y (subst T (sym e) tt)
    go false e = itself (lt x x) refl

refused_keeps : (home : Bool) (keeps : Float → Bool) (rest : Option VehicleBreak) (distance back : Float) → (walk_keeps home keeps (returned rest None None distance back) || home_keeps home keeps rest (unrested None distance back)) ≡ false
unfolding unrested end_of homeward returned
refused_keeps home keeps None distance back = refl
refused_keeps home keeps (Some b) distance back = refl

-- ---- a lone round
module _ (s : List ℕ) (d i : ℕ) where
  abbrev driven : Float
  driven = nought ⊕ distance_of s d i ⊕ distance_of s i d

  abbrev reached : Option VehicleBreak → Clock
  reached rest = next_of s (started rest d) i

  lone_keeps : (limits : RouteLimits) → route_feasible s d limits (i ∷ []) ≡ one_keeps limits.at_home (allow_of limits driven) (reached limits.rest) driven (time_of s i d)
  lone_keeps limits = longer_feasible s d limits [] i (start_at limits.rest d) refl ∙ feasible_keeps limits driven (reached limits.rest) (time_of s i d)

  lone_kept : (limits : RouteLimits) → route_feasible s d limits (i ∷ []) ≡ true → Kept limits.at_home (allow_of limits driven) (reached limits.rest) driven (time_of s i d)
  lone_kept limits f = one_kept limits.at_home (allow_of limits driven) (reached limits.rest) driven (time_of s i d) (sym (lone_keeps limits) ∙ f)

  -- with other maxima, where they keep every duration that the first ones do
  lone_feasible : (limits other : RouteLimits) → other.rest ≡ limits.rest → other.at_home ≡ limits.at_home → ((t : Float) → allow_of limits driven t ≡ true → allow_of other driven t ≡ true)
      → route_feasible s d limits (i ∷ []) ≡ true → route_feasible s d other (i ∷ []) ≡ true
  unfolding allow_of
  lone_feasible limits other r h g f =
      let k = lone_kept limits f in
      lone_keeps other ∙ rw (r, h) (k.by (allow_of other driven) (g k.duration k.kept))

module _ (s : List ℕ) (d v i : ℕ) (a : Accepted s) (l : Lone s d v i) where
  abbrev limits : RouteLimits
  limits = limits_at s v

  abbrev arrival : Float
  arrival = nought ⊕ time_of s d i

  arrival_upto : Upto (10 ^ 9) arrival
  arrival_upto = add_upto 0 (10 ^ 9) (10 ^ 9) nought (time_of s d i) (zero_upto 0) (time_bounded s a d i l.home l.stop) (omega arith) (exact (10 ^ 9) (omega arith))

  module _ (missed : window_missed s d i ≡ true) where
    before_refused : step_of (Some at_depot) (time_of s d i) (stop_of s i) ≡ None
    unfolding window_missed step_of serve_of
    before_refused = missed_refused at_depot arrival (stop_of s i).service (stop_of s i).gate missed

    rested_refused : (b : VehicleBreak) → BreakBounded b → serve_rested at_depot (time_of s d i) (stop_of s i) 1 b ≡ None
    unfolding window_missed serve_rested
    rested_refused b ok = go (lt b.latest start)
      where
        start : Float
        start = later_of arrival b.earliest

        start_upto : Upto (10 ^ 9) start
        start_upto = pick_upto (10 ^ 9) (lt arrival b.earliest) b.earliest arrival ok.earliest arrival_upto

        late : misses_hard (stop_of s i).gate (start ⊕ b.duration) ≡ true
        late =
            later_misses (stop_of s i).gate (10 ^ 9) (2 * 10 ^ 9) arrival (start ⊕ b.duration) (stop_bounded s a i l.stop).gate arrival_upto
            (add_upto (10 ^ 9) (10 ^ 9) (2 * 10 ^ 9) start b.duration start_upto ok.duration (omega arith) (exact (2 * 10 ^ 9) (omega arith)))
            (below_sum (10 ^ 9) (10 ^ 9) (10 ^ 9) (2 * 10 ^ 9) arrival start b.duration (add-fits binary64 nought (time_of s d i)) arrival_upto start_upto ok.duration (omega arith) (exact (2 * 10 ^ 9) (omega arith)) (not_before (10 ^ 9) arrival b.earliest arrival_upto))
            missed

        go : (t : Bool) → cond t None (visit_of (rested_at at_depot 1 start) (start ⊕ b.duration) (stop_of s i)) ≡ None
        go true = refl
        go false = missed_refused (rested_at at_depot 1 start) (start ⊕ b.duration) (stop_of s i).service (stop_of s i).gate late

    after_refused : (rest : Option VehicleBreak) → RestBounded rest → taken_of rest (Some at_depot) None (time_of s d i) (stop_of s i) 1 ≡ None
    unfolding taken_of step_of step_rested earlier_of
    after_refused None ok = refl
    after_refused (Some b) ok = rested_refused b ok

    window_fails : route_feasible s d limits (i ∷ []) ≡ false
    unfolding moved_of
    window_fails =
        lone_keeps s d i limits
        ∙ rw (before_refused, after_refused limits.rest (subst RestBounded (sym (limits_rest s v)) (vehicle_bounded s a v l.vehicle).rest))
        (refused_keeps limits.at_home (allow_of limits (driven s d i)) limits.rest _ _)

  module _ (feasible : route_feasible s d limits (i ∷ []) ≡ true) where
    -- A FEASIBLE LONE ROUND misses no hard window
    window_kept : window_missed s d i ≡ false
    window_kept = go (window_missed s d i) refl
      where
        go : (t : Bool) → window_missed s d i ≡ t → t ≡ false
        go true e = sym feasible ∙ window_fails e
        go false e = refl

    -- has a place for the rest
    rest_placed : no_rest_place s d v i ≡ false
    unfolding no_rest_place allow_of
    rest_placed = ap not (lone_feasible s d i limits (without_maxima limits) refl refl (λ t e. refl) feasible)

    -- keeps the greatest distance
    distance_kept : over_distance s d v i ≡ false
    unfolding over_distance allow_of
    distance_kept = ap not (and_first (within_of limits.max_distance (driven s d i)) _ (lone_kept s d i limits feasible).kept)

    -- and the greatest duration
    duration_kept : over_duration s d v i ≡ false
    unfolding over_duration allow_of
    duration_kept = ap not (lone_feasible s d i limits (without_max_distance limits) refl refl (λ t e. and_second (within_of limits.max_distance (driven s d i)) _ e) feasible)

  -- what keeps both in turn keeps them at once
  both_kept : over_distance s d v i ≡ false → over_duration s d v i ≡ false → route_feasible s d limits (i ∷ []) ≡ true
  unfolding over_distance over_duration allow_of
  both_kept p q =
      let w = not-false (within_of limits.max_distance (driven s d i)) p in
      lone_feasible s d i (without_max_distance limits) limits refl refl (λ t e. rw w e) (not-false (route_feasible s d (without_max_distance limits) (i ∷ [])) q)

-- NONE OF 3 TO 6 exactly if the lone round is feasible
pub walked_fails : (s : List ℕ) (d v i : ℕ) → Accepted s → Lone s d v i → (walked_reason s d v i ≡ 7) ↔ (route_feasible s d (limits_at s v) (i ∷ []) ≡ true)
unfolding walked_reason
walked_fails s d v i a l = (
  λ e. let n = none (window_missed s d i) (no_rest_place s d v i) (over_distance s d v i) (over_duration s d v i) e in both_kept s d v i a l n.0 n.1,
  λ f. rw (window_kept s d v i a l f, rest_placed s d v i a l f, distance_kept s d v i a l f, duration_kept s d v i a l f) refl,
)
  where
    none : (w r x y : Bool) → ◌≡◌ {A = ℕ} (cond w 3 (cond r 4 (cond x 5 (cond y 6 7)))) 7 → (x ≡ false) × (y ≡ false)
    none true r x y e = absurd (omega arith)
    none false true x y e = absurd (omega arith)
    none false false true y e = absurd (omega arith)
    none false false false true e = absurd (omega arith)
    none false false false false e = (refl, refl)
