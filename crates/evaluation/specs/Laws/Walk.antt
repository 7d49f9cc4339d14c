-- The laws of the walk. That walking on over two lists is walking over both joined, and over one row more one stop further, are `foldl-append` and
-- `fold_more` of the step `drive_to`. Assumes nothing.
use Rattle.std.specs.Prelude.{◌≡◌, refl, ℕ, ◌+◌, false, ◌||◌, List, [], ◌∷◌, ◌++◌, length, Float, Option, Some, None, is_some}
use Rattle.std.proofs.Common.{sym, ◌∙◌, arith, true≢false}
use Rattle.std.proofs.Math.Path.{ap}
use Rattle.lists.specs.Laws.Fold.{fold_keeps, fold_more}
use Rattle.sheet.specs.Values.{stop_of, distance_of, time_of}
use Rattle.sheet.specs.declared.customer.Stop.{Stop}
use Rattle.sheet.specs.declared.vehicle.VehicleBreak.{VehicleBreak}
use Rattle.evaluation_clock.specs.declared.clock.Schedule.{Schedule}
use Rattle.evaluation_clock.specs.Sums.{◌⊕◌}
use Rattle.evaluation_clock.specs.Clock.{Clock, step_of, step_rested, earlier_of, taken_of, moved_of, alive_of, next_of, home_schedule, unrested, end_of, homeward, returned, finish_of, clock_of, break_clock}
use Rattle.evaluation.specs.Walk.{Position, start_at, drive_to, walked_over, home_from, scheduled_of}
use Rattle.evaluation_clock.specs.declared.label.Label.{Label}

-- ---- once no label is left none comes back
none_next : (rest : Option VehicleBreak) (before after : Option Label) (travel : Float) (stop : Stop) (place : ℕ) → (is_some before || is_some after) ≡ false
    → (is_some (step_of before travel stop) || is_some (taken_of rest before after travel stop place)) ≡ false
unfolding step_of step_rested earlier_of taken_of
none_next rest (Some l) after travel stop place e = absurd (true≢false e)
none_next rest None (Some l) travel stop place e = absurd (true≢false e)
none_next None None None travel stop place e = refl
none_next (Some b) None None travel stop place e = refl

pub dead_next : (s : List ℕ) (c : Clock) (row : ℕ) → alive_of c ≡ false → alive_of (next_of s c row) ≡ false
unfolding alive_of moved_of
dead_next s c row e = none_next c.rest c.before c.after (time_of s c.prev row) (stop_of s row) c.place e

pub dead_over : (s : List ℕ) (p : Position) (rows : List ℕ) → alive_of p.clock ≡ false → alive_of (walked_over s p rows).clock ≡ false
unfolding drive_to
dead_over s p rows e = fold_keeps (drive_to s) (λ (q : Position). alive_of q.clock ≡ false) (λ q row. dead_next s q.clock row) p rows e

-- and there is no way home
none_home : (rest : Option VehicleBreak) (before after : Option Label) (distance back : Float) → (is_some before || is_some after) ≡ false → returned rest before after distance back ≡ None
unfolding returned unrested homeward end_of
none_home rest (Some l) after distance back e = absurd (true≢false e)
none_home rest None (Some l) distance back e = absurd (true≢false e)
none_home None None None distance back e = refl
none_home (Some b) None None distance back e = refl

pub dead_finish : (c : Clock) (distance back : Float) → alive_of c ≡ false → finish_of c distance back ≡ None
unfolding alive_of
dead_finish c distance back e = none_home c.rest c.before c.after distance back e

pub dead_home : (s : List ℕ) (depot : ℕ) (p : Position) → alive_of p.clock ≡ false → home_from s depot p ≡ None
unfolding home_from
dead_home s depot p e = dead_finish p.clock _ _ e

-- ---- what the walk keeps
pub walked_rest : (s : List ℕ) (p : Position) (rows : List ℕ) → (walked_over s p rows).clock.rest ≡ p.clock.rest
unfolding drive_to moved_of
walked_rest s p [] = refl
walked_rest s p (row ∷ rows) = walked_rest s (drive_to s p row) rows

pub walked_place : (s : List ℕ) (p : Position) (rows : List ℕ) → (walked_over s p rows).clock.place ≡ p.clock.place + length rows
unfolding drive_to moved_of
walked_place s p [] = omega arith
walked_place s p (row ∷ rows) = walked_place s (drive_to s p row) rows ∙ omega arith

-- ---- one row more
module _ (s : List ℕ) (p : Position) (rows : List ℕ) (i : ℕ) where
  pub walked_more : walked_over s p (rows ++ (i ∷ [])) ≡ drive_to s (walked_over s p rows) i
  walked_more = fold_more (drive_to s) p rows i

  pub more_clock : (walked_over s p (rows ++ (i ∷ []))).clock ≡ next_of s (walked_over s p rows).clock i
  unfolding drive_to
  more_clock = ap (λ (q : Position). q.clock) walked_more

  pub more_before : (walked_over s p (rows ++ (i ∷ []))).clock.before ≡ step_of (walked_over s p rows).clock.before (time_of s (walked_over s p rows).clock.prev i) (stop_of s i)
  unfolding moved_of
  more_before = ap (λ (c : Clock). c.before) more_clock

  pub more_prev : (walked_over s p (rows ++ (i ∷ []))).clock.prev ≡ i
  unfolding moved_of
  more_prev = ap (λ (c : Clock). c.prev) more_clock

  pub more_distance : (walked_over s p (rows ++ (i ∷ []))).distance ≡ (walked_over s p rows).distance ⊕ distance_of s (walked_over s p rows).clock.prev i
  unfolding drive_to
  more_distance = ap (λ (q : Position). q.distance) walked_more

-- a clock with that rest is the code's
pub clock_kept : (b : VehicleBreak) (c : Clock) → c.rest ≡ Some b → clock_of (break_clock b c) ≡ c
clock_kept b c e = ap (λ (r : Option VehicleBreak). record { rest = r; before = c.before; after = c.after; prev = c.prev; place = c.place }) (sym e)

-- ---- a walk without a rest takes none
home_unrested : (rest : Option VehicleBreak) (before after : Option Label) (distance back : Float) (k : Schedule) → rest ≡ None → returned rest before after distance back ≡ Some k → k.rest ≡ None
unfolding returned unrested
home_unrested (Some b) before after distance back k r e = let z : ◌≡◌ {A = ℕ} 0 1 = cc in absurd (omega arith)
home_unrested None (Some l) after distance back k r e = let same : home_schedule l distance back None ≡ k = cc in ap (λ (j : Schedule). j.rest) (sym same)
home_unrested None None after distance back k r e = let z : ◌≡◌ {A = ℕ} 0 1 = cc in absurd (omega arith)

pub unrested_answer : (s : List ℕ) (depot : ℕ) (route : List ℕ) (k : Schedule) → scheduled_of s depot None route ≡ Some k → k.rest ≡ None
unfolding scheduled_of home_from
unrested_answer s depot route k e =
    let c = (walked_over s (start_at None depot) route).clock in
    home_unrested c.rest c.before c.after _ _ k (walked_rest s (start_at None depot) route) e

-- ---- the label with the rest still to take is that of the walk without one
record Alike (p q : Position) : Type 0 where
  before : p.clock.before ≡ q.clock.before
  prev : p.clock.prev ≡ q.clock.prev
  distance : p.distance ≡ q.distance

alike_on : (s : List ℕ) (p q : Position) (row : ℕ) → Alike p q → Alike (drive_to s p row) (drive_to s q row)
unfolding drive_to moved_of
alike_on s p q row a = record { before = rw (a.before, a.prev); prev = refl; distance = rw (a.distance, a.prev) }

alike_over : (s : List ℕ) (p q : Position) (rows : List ℕ) → Alike p q → Alike (walked_over s p rows) (walked_over s q rows)
alike_over s p q [] a = a
alike_over s p q (row ∷ rows) a = alike_over s (drive_to s p row) (drive_to s q row) rows (alike_on s p q row a)

-- its schedule, from a position that has walked with a rest
abbrev pub plain_from : List ℕ → ℕ → Position → Option Schedule
plain_from s depot p = unrested p.clock.before (p.distance ⊕ distance_of s p.clock.prev depot) (time_of s p.clock.prev depot)

plain_returned : (rest : Option VehicleBreak) (before after : Option Label) (distance back : Float) → rest ≡ None → unrested before distance back ≡ returned rest before after distance back
unfolding returned
plain_returned None before after distance back e = refl
plain_returned (Some b) before after distance back e = let z : ◌≡◌ {A = ℕ} 0 1 = cc in absurd (omega arith)

pub plain_walk : (s : List ℕ) (depot : ℕ) (rest : Option VehicleBreak) (route : List ℕ) → plain_from s depot (walked_over s (start_at rest depot) route) ≡ scheduled_of s depot None route
unfolding scheduled_of home_from
plain_walk s depot rest route =
    let q = walked_over s (start_at None depot) route in
    let a = alike_over s (start_at rest depot) (start_at None depot) route (record { before = refl; prev = refl; distance = refl }) in
    rw (a.before, a.prev, a.distance) (plain_returned q.clock.rest q.clock.before q.clock.after _ _ (walked_rest s (start_at None depot) route))
