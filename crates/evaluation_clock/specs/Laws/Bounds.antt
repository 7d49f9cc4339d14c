-- The floats of one stop stay finite: each is at most a count of units of 2 ^ 30 (costs: of 2 ^ 50), and the count grows by a little with each stop.
-- So none is a NaN, an infinity or negative. The first part holds the only laws that unfold what a window says of an arrival. Assumes nothing.
use Rattle.std.proofs.Common.{subst, one-mul, arith}
use Rattle.std.specs.Prelude.{ℕ, ◌+◌, ◌*◌, ◌^◌, ◌≤◌, ◌<◌, Bool, cond, Float, Option, Some, None}
use Rattle.std.proofs.Math.Bool.{true, false}
use Rattle.std.proofs.Math.Dec.{T}
use Rattle.std.specs.Float.{binary64}
use Rattle.std.specs.Float.Ieee.{lt, fits}
use Rattle.numbers.specs.Laws.Upto.{Upto, Units, widen, add_units, mul_units, sub_units, widen_units, lt→le, pick_upto}
use Rattle.numbers.specs.Laws.Range.{zero_upto}
use Rattle.numbers.specs.Laws.Differ.{sub_positive, not_below}
use Rattle.sheet.specs.Laws.Finite.{WindowBounded, GateBounded, StopBounded, BreakBounded}
use Rattle.sheet.specs.Values.{nought}
use Rattle.sheet.specs.declared.customer.Window.{Window}
use Rattle.sheet.specs.declared.customer.Gate.{Gate}
use Rattle.sheet.specs.declared.customer.Gate.TheVariants.{Open, Hard, Soft}
use Rattle.sheet.specs.declared.customer.Stop.{Stop}
use Rattle.sheet.specs.declared.vehicle.VehicleBreak.{VehicleBreak}
use Rattle.evaluation_clock.specs.RestAnswer.{RestAnswer}
use Rattle.evaluation_clock.specs.declared.label.Label.{Label}
use Rattle.evaluation_clock.specs.Sums.{◌⊕◌, ◌⊖◌, ◌⊗◌}
use Rattle.evaluation_clock.specs.Window.{violated_of, waiting_of, lateness_of}
use Rattle.evaluation_clock.specs.Serve.{leaving_at, late_by, rested_at, departure_of, pass, visit_of, later_of, serve_of, serve_rested}

-- n times of the sheet
abbrev pub Times : ℕ → Float → Type 0
Times n x = Units 30 n x

-- n lateness costs of one such time
abbrev pub Costs : ℕ → Float → Type 0
Costs n x = Units 50 n x

pub one_time : (x : Float) → Upto (10 ^ 9) x → Times 1 x
one_time x u = widen (10 ^ 9) (1 * 2 ^ 30) x (omega arith) u

pub one_penalty : (x : Float) → Upto (10 ^ 6) x → Units 20 1 x
one_penalty x u = widen (10 ^ 6) (1 * 2 ^ 20) x (omega arith) u

-- ---- at a window
pub waiting_bounded : (w : Window) (arrival : Float) (n : ℕ) → WindowBounded w → Times n arrival → Times 1 (waiting_of w arrival)
unfolding waiting_of
waiting_bounded w arrival n ok u = go (lt arrival w.ready) (λ (t : T (lt arrival w.ready)). t)
  where
    go : (t : Bool) → (T t → T (lt arrival w.ready)) → Times 1 (cond t (w.ready ⊖ arrival) nought)
    go true f = sub_units 30 1 n w.ready arrival (omega arith) (omega arith) (one_time w.ready ok.ready) u (lt→le arrival w.ready (f tt))
    go false f = zero_upto (1 * 2 ^ 30)

pub lateness_bounded : (w : Window) (arrival : Float) (n : ℕ) → n < 2 ^ 40 → WindowBounded w → Times n arrival → T (violated_of w arrival) → Times n (lateness_of w arrival)
unfolding violated_of lateness_of
lateness_bounded w arrival n h ok u t =
    let late = sub_units 30 n 1 arrival w.due (omega arith) (omega arith) u (one_time w.due ok.due) (lt→le w.due arrival t) in
    pick_upto (n * 2 ^ 30) (lt (arrival ⊖ w.due) nought) nought (arrival ⊖ w.due) (zero_upto (n * 2 ^ 30)) late

-- a violated window is missed by more than 0
pub late_positive : (w : Window) (arrival : Float) (n : ℕ) → WindowBounded w → Times n arrival → T (fits binary64 w.due) → T (fits binary64 arrival) → T (violated_of w arrival) → T (lt nought (lateness_of w arrival))
unfolding violated_of lateness_of
late_positive w arrival n ok u f g t =
    let p = sub_positive (n * 2 ^ 30) (10 ^ 9) arrival w.due g f u ok.due t in
    rw (not_below (arrival ⊖ w.due) p) p

-- ---- a label
abbrev pub AnswerBounded : ℕ → RestAnswer → Type 0
AnswerBounded n None = Unit
AnswerBounded n (Some (place, start)) = Times n start

-- a times at most, late by b of them at most
pub record LabelBounded (a b : ℕ) (l : Label) : Type 0 where
  pub time : Times a l.time
  pub lateness : Times b l.lateness
  pub cost : Costs b l.lateness_cost
  pub rest : AnswerBounded a l.rest

abbrev pub ServedBounded : ℕ → ℕ → Option Label → Type 0
ServedBounded a b (Some l) = LabelBounded a b l
ServedBounded a b None = Unit

pub answer_widen : (a b : ℕ) (r : RestAnswer) → a ≤ b → AnswerBounded a r → AnswerBounded b r
answer_widen a b None h u = tt
answer_widen a b (Some (place, x)) h u = widen_units 30 a b x h u

pub label_widen : (a b c d : ℕ) (l : Label) → a ≤ c → b ≤ d → LabelBounded a b l → LabelBounded c d l
label_widen a b c d l h k ok = record {
  time = widen_units 30 a c l.time h ok.time;
  lateness = widen_units 30 b d l.lateness k ok.lateness;
  cost = widen_units 50 b d l.lateness_cost k ok.cost;
  rest = answer_widen a c l.rest h ok.rest;
}

served_widen : (a b c d : ℕ) (x : Option Label) → a ≤ c → b ≤ d → ServedBounded a b x → ServedBounded c d x
served_widen a b c d (Some l) h k ok = label_widen a b c d l h k ok
served_widen a b c d None h k ok = tt

-- ---- one stop: the wait and the service add two times, and the lateness grows by the arrival at most
departure_bounded : (w : Window) (arrival service : Float) (n : ℕ) → n < 2 ^ 40 → WindowBounded w → Times n arrival → Times 1 service → Times (n + 1 + 1) (departure_of w arrival service)
departure_bounded w arrival service n h ok u v =
    add_units 30 (n + 1) 1 (arrival ⊕ waiting_of w arrival) service (omega arith) (omega arith)
    (add_units 30 n 1 arrival (waiting_of w arrival) (omega arith) (omega arith) u (waiting_bounded w arrival n ok u)) v

module _ (a b n : ℕ) (l : Label) (arrival : Float) (s : Stop) (an : a ≤ n) (bn : b < 2 ^ 40) (nn : n < 2 ^ 40) (ok : LabelBounded a b l) (here : Times n arrival) (sok : StopBounded s) where
  serving : Times 1 s.service
  serving = one_time s.service sok.service

  leaving_bounded : (time : Float) → Times (n + 1 + 1) time → LabelBounded (n + 1 + 1) (b + n) (leaving_at l time)
  leaving_bounded time u = record {
    time = u;
    lateness = widen_units 30 b (b + n) l.lateness (omega arith) ok.lateness;
    cost = widen_units 50 b (b + n) l.lateness_cost (omega arith) ok.cost;
    rest = answer_widen a (n + 1 + 1) l.rest (omega arith) ok.rest;
  }

  late_bounded : (w : Window) (p : Float) → WindowBounded w → Upto (10 ^ 6) p → T (violated_of w arrival)
      → LabelBounded (n + 1 + 1) (b + n) (leaving_at (late_by l p (lateness_of w arrival)) (departure_of w arrival s.service))
  late_bounded w p wok pok t =
      let late = lateness_bounded w arrival n nn wok here t in
      let cost = mul_units 20 30 1 n p (lateness_of w arrival) (omega arith) (omega (arith, one-mul n)) (one_penalty p pok) late in
      record {
        time = departure_bounded w arrival s.service n nn wok here serving;
        lateness = add_units 30 b n l.lateness (lateness_of w arrival) (omega arith) (omega arith) ok.lateness late;
        cost = add_units 50 b n l.lateness_cost (p ⊗ lateness_of w arrival) (omega arith) (omega arith) ok.cost (subst (λ (k : ℕ). Costs k (p ⊗ lateness_of w arrival)) (one-mul n) cost);
        rest = answer_widen a (n + 1 + 1) l.rest (omega arith) ok.rest;
      }

  in_time_bounded : (w : Window) → WindowBounded w → LabelBounded (n + 1 + 1) (b + n) (leaving_at l (departure_of w arrival s.service))
  in_time_bounded w wok = leaving_bounded (departure_of w arrival s.service) (departure_bounded w arrival s.service n nn wok here serving)

  pass_bounded : (g : Gate) → GateBounded g → ServedBounded (n + 1 + 1) (b + n) (pass l arrival s.service g)
  unfolding pass
  pass_bounded Open gok =
      leaving_bounded (arrival ⊕ s.service)
      (widen_units 30 (n + 1) (n + 1 + 1) (arrival ⊕ s.service) (omega arith) (add_units 30 n 1 arrival s.service (omega arith) (omega arith) here serving))
  pass_bounded (Hard w) gok = go (violated_of w arrival)
    where
      go : (t : Bool) → ServedBounded (n + 1 + 1) (b + n) (cond t None (Some (leaving_at l (departure_of w arrival s.service))))
      go true = tt
      go false = in_time_bounded w gok
  pass_bounded (Soft w p) gok = go (violated_of w arrival) (λ (t : T (violated_of w arrival)). t)
    where
      go : (t : Bool) → (T t → T (violated_of w arrival)) → ServedBounded (n + 1 + 1) (b + n) (cond t
          (Some (leaving_at (late_by l p (lateness_of w arrival)) (departure_of w arrival s.service)))
          (Some (leaving_at l (departure_of w arrival s.service))))
      go true f = late_bounded w p gok.0 gok.1 (f tt)
      go false f = in_time_bounded w gok.0

  visit_bounded : (c d : ℕ) → n + 2 ≤ c → b + n ≤ d → ServedBounded c d (visit_of l arrival s)
  visit_bounded c d h k = served_widen (n + 1 + 1) (b + n) c d (visit_of l arrival s) (omega arith) k (pass_bounded s.gate sok.gate)

-- the way, the rest, the wait and the service add four times, and the lateness grows by a thousand at most
module _ (a b : ℕ) (l : Label) (travel : Float) (s : Stop) (an : a ≤ 996) (bn : b + 1000 < 2 ^ 40) (ok : LabelBounded a b l) (leg : Times 1 travel) (sok : StopBounded s) where
  arrival_bounded : Times (a + 1) (l.time ⊕ travel)
  arrival_bounded = add_units 30 a 1 l.time travel (omega arith) (omega arith) ok.time leg

  pub serve_bounded : ServedBounded (a + 4) (b + 1000) (serve_of l travel s)
  unfolding serve_of
  serve_bounded = visit_bounded a b (a + 1) l (l.time ⊕ travel) s (omega arith) (omega arith) (omega arith) ok arrival_bounded sok (a + 4) (b + 1000) (omega arith) (omega arith)

  module _ (place : ℕ) (r : VehicleBreak) (rok : BreakBounded r) where
    start : Float
    start = later_of (l.time ⊕ travel) r.earliest

    start_bounded : Times (a + 1) start
    unfolding start
    start_bounded =
        pick_upto ((a + 1) * 2 ^ 30) (lt (l.time ⊕ travel) r.earliest) r.earliest (l.time ⊕ travel)
        (widen_units 30 1 (a + 1) r.earliest (omega arith) (one_time r.earliest rok.earliest)) arrival_bounded

    rested_label : LabelBounded (a + 1) b (rested_at l place start)
    rested_label = record {
      time = widen_units 30 a (a + 1) l.time (omega arith) ok.time;
      lateness = ok.lateness;
      cost = ok.cost;
      rest = start_bounded;
    }

    pub rested_bounded : ServedBounded (a + 4) (b + 1000) (serve_rested l travel s place r)
    unfolding serve_rested start
    rested_bounded = go (lt r.latest start)
      where
        go : (t : Bool) → ServedBounded (a + 4) (b + 1000) (cond t None (visit_of (rested_at l place start) (start ⊕ r.duration) s))
        go true = tt
        go false =
            visit_bounded (a + 1) b (a + 2) (rested_at l place start) (start ⊕ r.duration) s (omega arith) (omega arith) (omega arith) rested_label
            (widen_units 30 (a + 1 + 1) (a + 2) (start ⊕ r.duration) (omega arith) (add_units 30 (a + 1) 1 start r.duration (omega arith) (omega arith) start_bounded (one_time r.duration rok.duration)))
            sok (a + 4) (b + 1000) (omega arith) (omega arith)
