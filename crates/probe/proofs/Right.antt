-- What the tests of a question show. Assumes nothing.
use mathlib.Core.Path.{◌≡◌, sym, ◌∙◌, subst}
use Prim.Native.Nat.{ℕ, ◌%◌, ◌≤◌, ◌<◌}
use native.Mathlib.Omega.{arith}
use mathlib.Core.Bool.{Bool, true, false, not}
use mathlib.Core.List.{List}
use lib.Dec.{T, ltb, leb, eqb, ltb→lt, leb→le, eqb→eq, T_not}
use borrow.Author.Tests.{eq-eqb, lt-leb}
use lib.Ieee.Fits.{and_l, and_r}
use lib.ListN.{length, get_or}
use Rattle.sheet.specs.Fields.{rows_of, vehicles_of, plan_length}
use Rattle.sheet.specs.Refusal.{header_right, refusal_of}
use Rattle.sheet.specs.Accepted.{Accepted}
use Rattle.sheet.specs.Laws.Accepted.{accepted}
use Rattle.sheet.specs.Values.{vehicle_of}
use Rattle.numbers.specs.Laws.All.{all_at}
use Rattle.evaluation.specs.Routed.{Routed}
use Rattle.probe.specs.Drivers.{Vehicled}
use Rattle.probe.specs.Promises.{RowsAsked, accepted_of, askable, rows_right, round_right, rounds_right}

-- a test that passed
pub passed : {a b : Bool} → a ≡ b → a ≡ true → T b
passed e f = subst T (sym (sym e ∙ f)) tt

-- ---- the sheet
pub too_short : (s : List ℕ) → length s < 16 → accepted_of s ≡ false
unfolding accepted_of refusal_of header_right
too_short s h = rw (lt-leb 16 (length s) h)

pub accepted_of_lem : (s : List ℕ) → T (accepted_of s) → Accepted s
unfolding accepted_of
accepted_of_lem s t = (accepted s (plan_length s) (eqb→eq (refusal_of s (plan_length s)) 0 t)).0

-- ---- the vehicle
pub vehicled : (s : List ℕ) (v : ℕ) → T (askable s v) → Vehicled s v
unfolding askable
vehicled s v t =
    let u = and_r (accepted_of s) _ t in
    record {
      sheet = accepted_of_lem s (and_l (accepted_of s) _ t);
      vehicle = ltb→lt v (vehicles_of s) (and_l (ltb v (vehicles_of s)) _ u);
      home = ltb→lt (vehicle_of s v).depot (rows_of s) (and_r (ltb v (vehicles_of s)) _ u);
    }

-- ---- the rows
pub asked_of : (s : List ℕ) (v : ℕ) (stops : List ℕ) → Vehicled s v → T (rows_right stops (rows_of s)) → RowsAsked s (vehicle_of s v).depot stops
unfolding rows_right
asked_of s v stops a t = record {
  sheet = a.sheet;
  home = a.home;
  row = λ k h. ltb→lt (get_or stops k 0) (rows_of s) (all_at (λ (j : ℕ). ltb (get_or stops j 0) (rows_of s)) (length stops) k h t);
}

pub routed_of : (s : List ℕ) (v : ℕ) (route : List ℕ) → Vehicled s v → T (round_right route (rows_of s)) → Routed s (vehicle_of s v).depot route
unfolding round_right
routed_of s v route a t =
    let q = asked_of s v route a (and_r (leb (length route) 101) _ t) in
    record { sheet = q.sheet; home = q.home; few = leb→le (length route) 101 (and_l (leb (length route) 101) _ t); row = q.row }

pub record Lengths (stops : List ℕ) (len rows : ℕ) : Type 0 where
  pub some : 0 < len
  pub few : len ≤ 101
  pub short : length stops < 0xffff_ffff
  pub each : T (rows_right stops rows)

pub lengths_of : (stops : List ℕ) (len rows : ℕ) → T (rounds_right stops len rows) → Lengths stops len rows
unfolding rounds_right
lengths_of stops len rows t =
    let u = and_r (not (eqb len 0)) _ t in
    let v = and_r (leb len 101) _ u in
    let w = and_r (ltb (length stops) 0xffff_ffff) _ v in
    let n : len ≡ 0 → ⊥ = λ e. T_not (eqb len 0) (and_l (not (eqb len 0)) _ t) (subst T (sym (eq-eqb len 0 e)) tt) in
    record {
      some = omega (arith, n);
      few = leb→le len 101 (and_l (leb len 101) _ u);
      short = ltb→lt (length stops) 0xffff_ffff (and_l (ltb (length stops) 0xffff_ffff) _ v);
      each = and_r (eqb (length stops % len) 0) _ w;
    }
