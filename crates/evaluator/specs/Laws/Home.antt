-- What a rest at home does to a round's record, and that it does nothing to any other. Assumes nothing.
use Rattle.std.specs.Prelude.{◌≡◌, refl, ℕ, ◌+◌, ◌^◌, Bool, false, ◌&&◌, cond, ◌⊎◌, List, [], ◌∷◌, Float, Option, Some, None}
use Rattle.std.proofs.Common.{sym, ◌∙◌, arith, inl, inr}
use Rattle.std.proofs.Math.Path.{ap, subst}
use Rattle.std.proofs.Math.Bool.{true, true≢false}
use Rattle.std.proofs.Math.Dec.{T}
use Rattle.std.proofs.Math.ListN.{length}
use Rattle.std.specs.Float.{binary64}
use Rattle.std.specs.Float.Ieee.{lt, le, fits}
use Rattle.std.specs.Float.Ieee.Bits.{is_true}
use Rattle.std.specs.Float.Ieee.Fits.{and_r, add-fits}
use Rattle.numbers.specs.Laws.Upto.{Upto, exact_scaled, add_upto, lt→le}
use Rattle.numbers.specs.Laws.Order.{le_through, below_sum}
use Rattle.sheet.specs.Values.{distance_of, time_of}
use Rattle.sheet.specs.Laws.Finite.{LimitBounded, BreakBounded, RestBounded}
use Rattle.sheet.specs.declared.vehicle.VehicleBreak.{VehicleBreak}
use Rattle.evaluation_clock.specs.Sums.{◌⊕◌}
use Rattle.evaluation_clock.specs.Clock.{home_schedule, unrested, homeward, returned}
use Rattle.evaluation_clock.specs.declared.clock.Schedule.{Schedule}
use Rattle.evaluation.specs.declared.limits.RouteLimits.{RouteLimits}
use Rattle.evaluation.specs.Routed.{Routed}
use Rattle.evaluation.specs.Limits.{within_of, allow_of}
use Rattle.evaluation.specs.Walk.{start_at, walked_over, home_from, scheduled_of}
use Rattle.evaluation.specs.Laws.Walk.{walked_rest, plain_from, plain_walk}
use Rattle.evaluation.specs.Laws.Finite.{ScheduleBounded, ScheduledBounded, scheduled_bounded}
use Rattle.evaluation.specs.Verdict.{Verdict, allowed, over_limit, no_schedule, held_to, mends, rested_home, mended_by, mended, or_home, verdict_on, is_feasible, eval_of}
use Rattle.evaluation.specs.Feasible.{route_eval}
use Rattle.evaluation.specs.Laws.Verdict.{Mended, verdict_scheduled, held_none, held_passes, held_rest}
use Rattle.evaluator.specs.declared.Progress.{Progress}
use Rattle.evaluator.specs.declared.Placed.{Placed}
use Rattle.evaluator.specs.declared.Record.{Record}
use Rattle.evaluator.specs.Record.{placed_by, placed_of, visited_of, begin_of, progress_of, record_of, build_route}
use Rattle.evaluator.specs.Laws.Agree.{figures, Behind, ready_behind, schedule_behind, eval_agree}
use Rattle.evaluation_clock.specs.declared.label.Label.{Label}

-- ---- today's verdict, or one with the rest at home
pub record Turned (limits : RouteLimits) (rest : Option VehicleBreak) (place : ℕ) (plain : Option Schedule) (v w : Verdict) : Type 0 where
  pub k : Schedule
  pub how : Mended limits rest place plain k
  pub failed : is_feasible v ≡ false
  pub is : w ≡ allowed k

abbrev pub Turns : RouteLimits → Option VehicleBreak → ℕ → Option Schedule → Verdict → Verdict → Type 0
Turns limits rest place plain v w = (w ≡ v) ⊎ Turned limits rest place plain v w

turned : (limits : RouteLimits) (rest : Option VehicleBreak) (place : ℕ) (plain : Option Schedule) (v : Verdict) → is_feasible v ≡ false → Turns limits rest place plain v (mended limits rest place plain v)
turned limits None place plain v n = inl refl
turned limits (Some b) place plain v n = marked limits.at_home refl
  where
    fit : (j : Schedule) (t : Bool) → limits.at_home ≡ true → plain ≡ Some j → mends limits b j.distance j.duration ≡ t → Turns limits (Some b) place plain v (cond t (allowed (rested_home b place j)) v)
    fit j true h w m = inr (record { k = rested_home b place j; how = record { b = b; resting = refl; marked = h; j = j; walked = w; fits = m; is = refl }; failed = n; is = refl })
    fit j false h w m = inl refl

    walked : (x : Option Schedule) → limits.at_home ≡ true → plain ≡ x → Turns limits (Some b) place plain v (mended_by limits b place x v)
    walked None h w = inl refl
    walked (Some j) h w = fit j (mends limits b j.distance j.duration) h w refl

    marked : (t : Bool) → limits.at_home ≡ t → Turns limits (Some b) place plain v (cond t (mended_by limits b place plain v) v)
    marked true h = walked plain h refl
    marked false h = inl refl

pub told : (limits : RouteLimits) (rest : Option VehicleBreak) (place : ℕ) (plain : Option Schedule) (v : Verdict) → Turns limits rest place plain v (or_home limits rest place plain v)
unfolding or_home
told limits rest place plain (allowed k) = inl refl
told limits rest place plain (over_limit k) = turned limits rest place plain (over_limit k) refl
told limits rest place plain no_schedule = turned limits rest place plain no_schedule refl

module _ (s : List ℕ) (depot : ℕ) (limits : RouteLimits) (route : List ℕ) where
  -- the verdict before there were rests at home
  abbrev pub today_on : Verdict
  today_on = held_to limits (scheduled_of s depot limits.rest route)

  -- how a rest at home mends the round
  abbrev pub MendedRound : Schedule → Type 0
  MendedRound k = Mended limits limits.rest (1 + length route) (scheduled_of s depot None route) k

  abbrev pub Told : Type 0
  Told = Turns limits limits.rest (1 + length route) (scheduled_of s depot None route) today_on (verdict_on s depot limits route)

  pub kept_or_mended : Told
  kept_or_mended = rw (verdict_scheduled s depot limits route) (told limits limits.rest (1 + length route) (scheduled_of s depot None route) today_on)

-- ---- the record
progress_place : (s : List ℕ) (t : Placed) (p : Progress) (rows : List ℕ) → (progress_of s t p rows).place ≡ p.place + length rows
unfolding visited_of
progress_place s t p [] = omega arith
progress_place s t p (row ∷ rows) = progress_place s t (visited_of s t p row) rows ∙ omega arith

-- a mark that mends a verdict turned down
mended_verdict : (limits : RouteLimits) (rest : Option VehicleBreak) (place : ℕ) (plain : Option Schedule) (v : Verdict) (k : Schedule) → is_feasible v ≡ false → Mended limits rest place plain k → or_home limits rest place plain v ≡ allowed k
unfolding or_home
mended_verdict limits rest place plain (allowed j) k n m = absurd (true≢false n)
mended_verdict limits rest place plain (over_limit j) k n m = rw (m.resting, m.walked, m.fits, m.marked) (ap allowed m.is)
mended_verdict limits rest place plain no_schedule k n m = rw (m.resting, m.walked, m.fits, m.marked) (ap allowed m.is)

module _ (s : List ℕ) (depot : ℕ) (limits : RouteLimits) (route : List ℕ) where
  -- before there were rests at home the rest stood where the schedule has it, and the duration was the return
  abbrev pub today_rest : Placed
  today_rest = placed_by limits.rest (today_on s depot limits route)

  abbrev pub today_record : Record
  today_record =
      let p = progress_of s today_rest (begin_of depot) route in
      record {
        load = p.load;
        distance = p.distance ⊕ distance_of s p.prev depot;
        duration = p.departure ⊕ time_of s p.prev depot;
        lateness = p.lateness;
        lateness_cost = p.lateness_cost;
        rest = today_rest.answer;
      }

  today_behind : Behind (1 + length route) today_rest.answer
  today_behind = by limits.rest (scheduled_of s depot limits.rest route) (schedule_behind s depot limits.rest route)
    where
      by : (r : Option VehicleBreak) (x : Option Schedule) → ((k : Schedule) → x ≡ Some k → Behind (1 + length route) k.rest) → Behind (1 + length route) (placed_by r (held_to limits x)).answer
      by None x h = tt
      by (Some b) None h = rw (held_none limits) tt
      by (Some b) (Some k) h = subst (Behind (1 + length route)) (sym (held_rest limits k)) (h k refl)

  kept_record : verdict_on s depot limits route ≡ today_on s depot limits route → build_route s depot limits route ≡ today_record
  unfolding build_route record_of placed_of
  kept_record e =
      let p = progress_of s today_rest (begin_of depot) route in
      rw (
        e,
        ready_behind today_rest.answer today_rest.duration p.place (p.departure ⊕ time_of s p.prev depot)
            (subst (λ (n : ℕ). Behind n today_rest.answer) (sym (progress_place s today_rest (begin_of depot) route)) today_behind),
      )

  -- "A round passed today (..) keeps today's figures to the bit."
  pub passed_record : is_feasible (today_on s depot limits route) ≡ true → build_route s depot limits route ≡ today_record
  passed_record h = go (kept_or_mended s depot limits route)
    where
      go : Told s depot limits route → build_route s depot limits route ≡ today_record
      go (inl e) = kept_record e
      go (inr m) = absurd (true≢false (sym h ∙ m.failed))

  -- "and one that this rest cannot mend"
  pub unmended_record : ((k : Schedule) → MendedRound s depot limits route k → ⊥) → build_route s depot limits route ≡ today_record
  unmended_record h = go (kept_or_mended s depot limits route)
    where
      go : Told s depot limits route → build_route s depot limits route ≡ today_record
      go (inl e) = kept_record e
      go (inr m) = absurd (h m.k m.how)

  -- so every round of a vehicle without mark 8
  pub unmarked_record : limits.at_home ≡ false → build_route s depot limits route ≡ today_record
  unmarked_record h = unmended_record (λ k m. true≢false (sym m.marked ∙ h))

  -- a round that is mended has the figures of the walk without a rest, with it at home
  pub mended_record : is_feasible (today_on s depot limits route) ≡ false → (k : Schedule) → MendedRound s depot limits route k → figures (build_route s depot limits route) ≡ k
  unfolding route_eval
  mended_record n k m = eval_agree s depot limits route k (ap eval_of (verdict_scheduled s depot limits route ∙ mended_verdict limits limits.rest (1 + length route) (scheduled_of s depot None route) (today_on s depot limits route) k n m))

-- ---- a rest that mends a round starts at its return
-- the schedule without a rest, where none is needed
unneeded : (b : VehicleBreak) (before after : Option Label) (distance back : Float) (j : Schedule) → unrested before distance back ≡ Some j → T (le j.duration b.earliest) → homeward b before after distance back ≡ Some j
unfolding unrested homeward
unneeded b None after distance back j e h = let z : ◌≡◌ {A = ℕ} 0 1 = cc in absurd (omega arith)
unneeded b (Some l) after distance back j e h =
    let same : home_schedule l distance back None ≡ j = cc in
    rw (is_true (le (l.time ⊕ back) b.earliest) (subst (λ (i : Schedule). T (le i.duration b.earliest)) (sym same) h)) e

-- its return is a sum
return_fits : (before : Option Label) (distance back : Float) (j : Schedule) → unrested before distance back ≡ Some j → T (fits binary64 j.duration)
unfolding unrested
return_fits None distance back j e = let z : ◌≡◌ {A = ℕ} 0 1 = cc in absurd (omega arith)
return_fits (Some l) distance back j e = let same : home_schedule l distance back None ≡ j = cc in subst (λ (i : Schedule). T (fits binary64 i.duration)) same (add-fits binary64 l.time back)

-- an earlier end keeps the limits too
earlier_allowed : (limits : RouteLimits) (distance x y : Float) (a b : ℕ) → LimitBounded limits.max_duration → Upto a x → Upto b y → T (le x y) → allow_of limits distance y ≡ true → allow_of limits distance x ≡ true
unfolding allow_of
earlier_allowed limits distance x y a b l u v h e = go (within_of limits.max_distance distance) limits.max_duration l e
  where
    go : (t : Bool) (m : Option Float) → LimitBounded m → (t && within_of m y) ≡ true → (t && within_of m x) ≡ true
    go false m l e = e
    go true None l e = refl
    go true (Some end) l e = is_true (le x end) (le_through a b (10 ^ 12) x y end u v l h (subst T (sym e) tt))

module _ (s : List ℕ) (depot : ℕ) (route : List ℕ) (ok : Routed s depot route) (limits : RouteLimits) (resting : RestBounded limits.rest) (lasting : LimitBounded limits.max_duration) where
  -- by the earliest no rest is needed, so today's verdict is on the return itself, and the limits that it fails allow no later end
  not_early : is_feasible (today_on s depot limits route) ≡ false → (k : Schedule) (m : MendedRound s depot limits route k) → lt m.j.duration m.b.earliest ≡ true → ⊥
  unfolding mends scheduled_of home_from returned
  not_early n k m e =
      let b = m.b in
      let j = m.j in
      let p = walked_over s (start_at (Some b) depot) route in
      let plain : plain_from s depot p ≡ Some j = plain_walk s depot (Some b) route ∙ m.walked in
      let early : T (le j.duration b.earliest) = lt→le j.duration b.earliest (subst T (sym e) tt) in
      let today : scheduled_of s depot limits.rest route ≡ Some j =
      ap (λ (r : Option VehicleBreak). scheduled_of s depot r route) m.resting
      ∙ ap (λ (r : Option VehicleBreak). returned r p.clock.before p.clock.after (p.distance ⊕ distance_of s p.clock.prev depot) (time_of s p.clock.prev depot)) (walked_rest s (start_at (Some b) depot) route)
      ∙ unneeded b p.clock.before p.clock.after _ _ j plain early in
      let bounded : ScheduleBounded j = subst ScheduledBounded m.walked (scheduled_bounded s depot route ok None tt) in
      let range : BreakBounded b = subst RestBounded m.resting resting in
      let end = b.earliest ⊕ b.duration in
      let later = below_sum (2 ^ 40) (10 ^ 9) (10 ^ 9) (2 ^ 40) j.duration b.earliest b.duration (return_fits p.clock.before _ _ j plain) bounded.duration range.earliest range.duration (omega arith) (exact_scaled 1 40 (omega arith) (omega arith)) early in
      let ends = add_upto (10 ^ 9) (10 ^ 9) (2 ^ 40) b.earliest b.duration range.earliest range.duration (omega arith) (exact_scaled 1 40 (omega arith) (omega arith)) in
      let fits : (le b.earliest b.latest && allow_of limits j.distance end) ≡ true = subst (λ (t : Bool). (le (cond t b.earliest j.duration) b.latest && allow_of limits j.distance (cond t b.earliest j.duration ⊕ b.duration)) ≡ true) e m.fits in
      let kept = earlier_allowed limits j.distance j.duration end (2 ^ 40) (2 ^ 40) lasting bounded.duration ends later (is_true _ (and_r (le b.earliest b.latest) _ (subst T (sym fits) tt))) in
      true≢false (sym (held_passes limits j ∙ kept) ∙ ap (λ (x : Option Schedule). is_feasible (held_to limits x)) (sym today) ∙ n)

  pub mended_start : is_feasible (today_on s depot limits route) ≡ false → (k : Schedule) (m : MendedRound s depot limits route k) → k.rest ≡ Some ((1 + length route), m.j.duration)
  mended_start n k m = ap (λ (i : Schedule). i.rest) (sym m.is) ∙ ap ((λ (x0 : _). Some ((1 + length route), x0))) (go (lt m.j.duration m.b.earliest) refl)
    where
      go : (t : Bool) → lt m.j.duration m.b.earliest ≡ t → cond t m.b.earliest m.j.duration ≡ m.j.duration
      go true e = absurd (not_early n k m e)
      go false e = refl
