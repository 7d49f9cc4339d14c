-- A window's stop in f64 is its stop over natural numbers, where the numbers are whole and the window is hard. Assumes nothing.
use Rattle.std.specs.Prelude.{◌≡◌, refl, ℕ, suc, ◌+◌, ◌-◌, ◌*◌, ◌≤◌, Bool, ◌&&◌, T, Float, Option, Some, None}
use Rattle.std.proofs.Common.{sym, ◌∙◌, subst, zero-le, le_of_lt, arith, ltb-true, le-ltb}
use Rattle.std.proofs.Math.Path.{ap}
use Rattle.std.proofs.Math.Bool.{true, false, cond}
use Rattle.std.proofs.Math.Dec.{ltb}
use Rattle.std.specs.Float.Ieee.{of_bits, of_fields, odd}
use Rattle.sheet.specs.Fields.{most_rows}
use Rattle.sheet.specs.Values.{nought, gate_of}
use Rattle.sheet.specs.declared.customer.Window.{Window}
use Rattle.evaluation_clock.specs.declared.label.Label.{Label}
use Rattle.evaluation_clock.specs.Sums.{◌⊕◌, ◌⊖◌}
use Rattle.evaluation_clock.specs.Window.{violated_of, waiting_of}
use Rattle.evaluation_clock.specs.Serve.{leaving_at, departure_of, pass}
use Rattle.lawful.specs.Whole.{Is}
use Rattle.lawful.specs.Lawful.{Walk, failed, left}
use Rattle.lawful.specs.Laws.Whole.{lt_whole, add_whole, sub_whole}
use Rattle.lawful.specs.Laws.Amounts.{Amount}

-- a label and the departure it stands for, after n stops: a stop adds at most a leg, a rest and a service. What its lateness costs is still the start's.
pub record Tracks (n t : ℕ) (l : Label) : Type 0 where
  pub time : Is t l.time
  pub early : t ≤ 3_000_000_000 * n
  pub cost : l.lateness_cost ≡ nought

abbrev pub Same : ℕ → Walk → Option Label → Type 0
Same n failed None = Unit
Same n failed (Some l) = ⊥
Same n (left t) None = ⊥
Same n (left t) (Some l) = Tracks n t l

pub nought_is : Is 0 nought
unfolding of_bits of_fields odd
nought_is = (refl, refl)

-- ---- a window: the one place here that opens what the Rust does at it
module _ (at : ℕ) (arrival : Float) (w : Window) (here : Is at arrival) where
  violated_whole : (d : ℕ) → Is d w.due → violated_of w arrival ≡ ltb d at
  unfolding violated_of
  violated_whole d u = lt_whole d at w.due arrival u here

  waiting_whole : (r : ℕ) → Amount r w.ready → Is (cond (ltb at r) (r - at) 0) (waiting_of w arrival)
  unfolding waiting_of
  waiting_whole r u = rw (lt_whole at r arrival w.ready here u.is) (go (ltb at r) refl)
    where
      go : (t : Bool) → ltb at r ≡ t → Is (cond t (r - at) 0) (cond t (w.ready ⊖ arrival) nought)
      go true e = let h = u.small in sub_whole r at w.ready arrival u.is here (omega arith) (le_of_lt (ltb-true at r e))
      go false e = nought_is

-- arrival and wait together are the later of arrival and ready
begins : (at r : ℕ) → at + cond (ltb at r) (r - at) 0 ≡ cond (ltb at r) r at
begins at r = go (ltb at r) refl
  where
    go : (t : Bool) → ltb at r ≡ t → at + cond t (r - at) 0 ≡ cond t r at
    go true e = let h = ltb-true at r e in omega arith
    go false e = omega arith

pub later_upto : (at r k : ℕ) → at ≤ k → r ≤ k → cond (ltb at r) r at ≤ k
later_upto at r k h i = go (ltb at r)
  where
    go : (t : Bool) → cond t r at ≤ k
    go true = i
    go false = h

-- an arrival after n stops, with or without a rest before the service
abbrev pub Arriving : ℕ → ℕ → Type 0
Arriving n at = at ≤ 3_000_000_000 * n + 2_000_000_000

module _ (n at r d sv : ℕ) (few : n ≤ most_rows) (l : Label) (arrival service : Float) (w : Window) (here : Is at arrival) (soon : Arriving n at)
    (opens : Amount r w.ready) (closes : Amount d w.due) (serving : Amount sv service) (free : l.lateness_cost ≡ nought) where
  begins_by : cond (ltb at r) r at ≤ 3_000_000_000 * n + 2_000_000_000
  begins_by = let a = opens.small in later_upto at r (3_000_000_000 * n + 2_000_000_000) soon (omega arith)

  departs_by : cond (ltb at r) r at + sv ≤ 3_000_000_000 * suc n
  departs_by = let a = begins_by in let b = serving.small in omega arith

  leaves : (time : Float) → Is (cond (ltb at r) r at + sv) time → Tracks (suc n) (cond (ltb at r) r at + sv) (leaving_at l time)
  leaves time u = record { time = u; early = departs_by; cost = free }

  departs_whole : Is (cond (ltb at r) r at + sv) (departure_of w arrival service)
  departs_whole =
      let b = begins_by in
      let c = departs_by in
      let e = begins at r in
      add_whole (cond (ltb at r) r at) sv (arrival ⊕ waiting_of w arrival) service
      (subst (λ (k : ℕ). Is k (arrival ⊕ waiting_of w arrival)) e
      (add_whole at (cond (ltb at r) (r - at) 0) arrival (waiting_of w arrival) here (waiting_whole at arrival w here r opens) (omega arith)))
      serving.is (omega arith)

  pub pass_same : (windowed soft : Bool) (penalty : Float) → (T windowed → T soft → ⊥) → (windowed ≡ false → r ≡ 0)
      → Same (suc n) (cond (windowed && ltb d at) failed (left (cond (ltb at r) r at + sv))) (pass l arrival service (gate_of windowed soft w penalty))
  unfolding pass
  pass_same false soft penalty hard unready =
      leaves (arrival ⊕ service)
      (subst (λ (k : ℕ). Is (k + sv) (arrival ⊕ service)) (sym (ap (λ (k : ℕ). cond (ltb at k) k at) (unready refl) ∙ ap (λ (t : Bool). cond t 0 at) (le-ltb at 0 zero-le)))
      (let a = serving.small in add_whole at sv arrival service here serving.is (omega arith)))
  pass_same true true penalty hard unready = absurd (hard tt tt)
  pass_same true false penalty hard unready = rw (violated_whole at arrival w here d closes.is) (go (ltb d at))
    where
      go : (t : Bool) → Same (suc n) (cond t failed (left (cond (ltb at r) r at + sv))) (cond t None (Some (leaving_at l (departure_of w arrival service))))
      go true = tt
      go false = leaves (departure_of w arrival service) departs_whole
