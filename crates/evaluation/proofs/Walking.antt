-- One turn of the walk without a rest: it goes on, stops at a hard window that is missed, or ends. Assumes nothing.
use Rattle.std.specs.Prelude.{Option, Some, None}
use mathlib.Core.Path.{◌≡◌, refl, sym, ap, ◌∙◌}
use Prim.Native.Nat.{ℕ, ◌+◌, ◌≤◌, ◌<◌}
use native.Mathlib.Omega.{arith}
use mathlib.Core.Bool.{Bool, true, false, cond}
use mathlib.Core.List.{List}
use lib.ListN.{length, drop, get_or}
use lib.Ieee.{Float}
use Rattle.lists.specs.Laws.Fold.{fold_turn}
use Rattle.sheet.specs.Fields.{rows_of}
use Rattle.sheet.specs.Values.{stop_of, distance_of, time_of}
use Rattle.sheet.specs.declared.customer.Gate.{Gate}
use Rattle.sheet.specs.declared.customer.Gate.TheVariants.{Open, Hard, Soft}
use Rattle.sheet.specs.declared.customer.Stop.{Stop}
use Rattle.evaluation_clock.specs.RestAnswer.{RestAnswer}
use Rattle.evaluation_clock.specs.declared.label.Label.{Label}
use Rattle.evaluation_clock.specs.Sums.{◌⊕◌}
use Rattle.evaluation_clock.specs.Window.{violated_of, lateness_of}
use Rattle.evaluation.specs.Routed.{Routed}
use Rattle.evaluation_clock.specs.Serve.{leaving_at, late_by, departure_of, pass, serve_of}
use Rattle.evaluation_clock.specs.Clock.{step_of, taken_of, moved_of, alive_of}
use Rattle.evaluation.specs.Walk.{Position, drive_to, walked_over}
use Rattle.evaluation.specs.Laws.Walk.{dead_over}

-- ---- a visit takes no rest
abbrev rest_in : Option Label → RestAnswer → RestAnswer
rest_in (Some l) r = l.rest
rest_in None r = r

abbrev Keeps : RestAnswer → Option Label → Type 0
Keeps r x = (next : Label) → x ≡ Some next → next.rest ≡ r

done_keeps : (l : Label) → Keeps l.rest (Some l)
done_keeps l next e = sym (ap (λ (x : Option Label). rest_in x l.rest) e)

refused_keeps : (r : RestAnswer) → Keeps r None
refused_keeps r next e = cc

either_keeps : (r : RestAnswer) (b : Bool) (x y : Option Label) → Keeps r x → Keeps r y → Keeps r (cond b x y)
either_keeps r true x y f g = f
either_keeps r false x y f g = g

pass_keeps : (l : Label) (arrival service : Float) (gate : Gate) → Keeps l.rest (pass l arrival service gate)
unfolding pass
pass_keeps l arrival service Open = done_keeps (leaving_at l (arrival ⊕ service))
pass_keeps l arrival service (Hard w) = either_keeps l.rest (violated_of w arrival) None (Some (leaving_at l (departure_of w arrival service))) (refused_keeps l.rest) (done_keeps (leaving_at l (departure_of w arrival service)))
pass_keeps l arrival service (Soft w penalty) =
    let late = leaving_at (late_by l penalty (lateness_of w arrival)) (departure_of w arrival service) in
    let timely = leaving_at l (departure_of w arrival service) in
    either_keeps l.rest (violated_of w arrival) (Some late) (Some timely) (done_keeps late) (done_keeps timely)

serve_rest : (l : Label) (travel : Float) (stop : Stop) (next : Label) → serve_of l travel stop ≡ Some next → next.rest ≡ l.rest
unfolding serve_of
serve_rest l travel stop next e = pass_keeps l (l.time ⊕ travel) stop.service stop.gate next e

-- ---- the loop
-- the position with that label
abbrev pub plain_at : Option Label → Float → ℕ → ℕ → Position
plain_at x distance prev place = record { clock = record { rest = None; before = x; after = None; prev = prev; place = place }; distance = distance }

-- what holds at its head, which began with the label l₀, the distance d₀ and the row p₀, its first stop counted anyhow
pub record Walking (s rows : List ℕ) (l₀ : Label) (d₀ : Float) (p₀ : ℕ) (l : Label) (distance : Float) (prev i : ℕ) : Type 0 where
  pub routed : Routed s p₀ rows
  pub within : i ≤ length rows
  pub from : prev < rows_of s
  pub unrested : l.rest ≡ None
  pub same : (place : ℕ) → walked_over s (plain_at (Some l₀) d₀ p₀ place) rows ≡ walked_over s (plain_at (Some l) distance prev (place + i)) (drop i rows)

module _ (s rows : List ℕ) (l₀ : Label) (d₀ : Float) (p₀ : ℕ) (l : Label) (distance : Float) (prev i : ℕ) (g : Walking s rows l₀ d₀ p₀ l distance prev i) where
  abbrev row : ℕ
  row = get_or rows i 0

  pub in_range_lem : i < length rows → row < rows_of s
  in_range_lem h = g.routed.row i (omega arith)

  -- one stop further
  visited : (x : Option Label) → i < length rows → serve_of l (time_of s prev row) (stop_of s row) ≡ x → (place : ℕ)
      → walked_over s (plain_at (Some l₀) d₀ p₀ place) rows ≡ walked_over s (plain_at x (distance ⊕ distance_of s prev row) row (place + (i + 1))) (drop (i + 1) rows)
  unfolding drive_to moved_of step_of taken_of
  visited x h e place =
      let n : place + i + 1 ≡ place + (i + 1) = omega arith in
      g.same place
      ∙ fold_turn (drive_to s) (plain_at (Some l) distance prev (place + i)) rows i 0 (omega arith)
      ∙ ap (λ (y : Option Label). walked_over s (plain_at y (distance ⊕ distance_of s prev row) row (place + i + 1)) (drop (i + 1) rows)) e
      ∙ ap (λ (k : ℕ). walked_over s (plain_at x (distance ⊕ distance_of s prev row) row k) (drop (i + 1) rows)) n

  pub goes_on : (next : Label) → i < length rows → serve_of l (time_of s prev row) (stop_of s row) ≡ Some next
      → Walking s rows l₀ d₀ p₀ next (distance ⊕ distance_of s prev row) row (i + 1)
  goes_on next h e = record {
    routed = g.routed;
    within = omega arith;
    from = in_range_lem h;
    unrested = serve_rest l (time_of s prev row) (stop_of s row) next e ∙ g.unrested;
    same = visited (Some next) h e;
  }

  pub stops : i < length rows → serve_of l (time_of s prev row) (stop_of s row) ≡ None → (place : ℕ) → alive_of (walked_over s (plain_at (Some l₀) d₀ p₀ place) rows).clock ≡ false
  unfolding alive_of
  stops h e place = rw (visited None h e place) (dead_over s (plain_at None (distance ⊕ distance_of s prev row) row (place + (i + 1))) (drop (i + 1) rows) refl)
