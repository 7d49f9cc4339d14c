-- What a round costs: a number from 0 up where it is allowed, and else infinity. No difference of two such numbers is as dear as going alone, which is infinity here. Assumes nothing.
use Rattle.std.specs.Prelude.{Option, Some, None, is_some}
use mathlib.Core.Path.{◌≡◌, refl, sym, ap, ◌∙◌}
use Prim.Native.Nat.{ℕ, suc, ◌+◌, ◌-◌, ◌*◌, ◌^◌, ◌<◌}
use native.Mathlib.Nat.{le_trans, le_of_eq, mul_assoc, mul-le-mul_right, mul-pos, sub-le}
use native.Mathlib.Omega.{arith}
use mathlib.Core.Bool.{Bool, true, false, cond, true≢false}
use mathlib.Core.List.{List}
use lib.Dec.{ltb}
use lib.Ieee.{Float, nan, inf, fin, binary64, prec, emax, low, up, down, odd, units, round, neg, sum, add, sub, lt, eq, le}
use lib.Ieee.Fits.{down_pos, round_is}
use lib.Ieee.Exact.{HasValue, odd_sign}
use Rattle.numbers.specs.Laws.Upto.{Upto, Exact, exact_scaled, round_upto}
use Rattle.sheet.specs.Fields.{vehicles_of}
use Rattle.sheet.specs.Laws.Finite.{vehicle_bounded}
use Rattle.evaluation_clock.specs.Sums.{◌⊕◌, ◌⊖◌}
use Rattle.evaluation.specs.Limits.{limits_at}
use Rattle.evaluation.specs.Laws.Limits.{limits_rest}
use Rattle.evaluation.specs.Routed.{Routed}
use Rattle.evaluation.specs.Feasible.{priced_distance, route_eval, cost_of, effective_cost}
use Rattle.evaluation.specs.Laws.Verdict.{allowed_feasible}
use Rattle.evaluation.specs.Laws.Finite.{EvalBounded, priced_bounded, eval_bounded}
use Rattle.constructive.specs.Rounds.{passes}
use Rattle.fleet.specs.Cheapest.{priced_of}
use Rattle.evaluation_clock.specs.declared.clock.Schedule.{Schedule}

-- ---- numbers and infinity
number_below : (n : ℕ) (x : Float) → Upto n x → le (inf false) x ≡ false
unfolding le lt eq
number_below n nan u = absurd u
number_below n (inf s) u = absurd u
number_below n (fin s m e) u = refl

plus_endless : (n : ℕ) (x : Float) → Upto n x → x ⊕ inf false ≡ inf false
unfolding add
plus_endless n nan u = absurd u
plus_endless n (inf s) u = absurd u
plus_endless n (fin s m e) u = refl

-- a float with a value is below infinity
value_below : (x : Float) (s : Bool) (a c : ℕ) → HasValue x s a c → le (inf false) x ≡ false
unfolding le lt eq
value_below nan s a c h = absurd h
value_below (inf t) s a c h = absurd h
value_below (fin t m e) s a c h = refl

-- what rounds to a negative number, or to minus infinity
units_below : (q k : ℕ) → le (inf false) (units binary64 true q k) ≡ false
unfolding units le lt eq
units_below q k = go (ltb (q * 2 ^ k) (2 ^ (low binary64 + suc (emax binary64))))
  where
    go : (b : Bool) → le (inf false) (cond b (odd (suc (prec binary64)) true q k (low binary64)) (inf true)) ≡ false
    go true = value_below (odd (suc (prec binary64)) true q k (low binary64)) true (q * 2 ^ k) (2 ^ low binary64) (odd_sign (suc (prec binary64)) true q k (low binary64))
    go false = refl

negative_below : (a c : ℕ) → le (inf false) (round binary64 true a c) ≡ false
negative_below a c = ap (le (inf false)) (round_is binary64 true a c) ∙ units_below _ _

difference_below : (n : ℕ) (x y : Float) → Upto n x → Upto n y → Exact n → le (inf false) (x ⊖ y) ≡ false
unfolding sub add neg sum
difference_below n nan y u v w = absurd u
difference_below n (inf s) y u v w = absurd u
difference_below n (fin true m e) y u v w = absurd u
difference_below n (fin false m e) nan u v w = absurd v
difference_below n (fin false m e) (inf t) u v w = absurd v
difference_below n (fin false m e) (fin true k d) u v w = absurd v
difference_below n (fin false m e) (fin false k d) u v w = go (ltb (m * up e * down d) (k * up d * down e))
  where
    go : (t : Bool) → le (inf false) (cond t (round binary64 true (k * up d * down e - m * up e * down d) (down e * down d)) (round binary64 false (m * up e * down d - k * up d * down e) (down e * down d))) ≡ false
    go true = negative_below (k * up d * down e - m * up e * down d) (down e * down d)
    go false =
        number_below n (round binary64 false (m * up e * down d - k * up d * down e) (down e * down d))
        (round_upto (m * up e * down d - k * up d * down e) (down e * down d) n (mul-pos (down_pos e) (down_pos d))
        (le_trans (sub-le (m * up e * down d) (k * up d * down e)) (le_trans (mul-le-mul_right (down d) u) (le_of_eq (mul_assoc n (down e) (down d)))))
        w)

-- ---- a round that is walked
plus_by : (x : Option Schedule) → EvalBounded x → cost_of x ⊕ inf false ≡ inf false
unfolding cost_of add
plus_by (Some k) u = plus_endless (2 ^ 68) (priced_distance k) (priced_bounded k u)
plus_by None u = refl

upto_by : (x : Option Schedule) → EvalBounded x → is_some x ≡ true → Upto (2 ^ 68) (cost_of x)
unfolding cost_of
upto_by (Some k) u e = priced_bounded k u
upto_by None u e = absurd (true≢false (sym e))

-- ---- a round of a vehicle
module _ (s : List ℕ) (v : ℕ) (own : v < vehicles_of s) (route : List ℕ) (ok : Routed s 0 route) where
  abbrev eval : Option Schedule
  eval = route_eval s 0 (limits_at s v) route

  bounded : EvalBounded eval
  bounded = eval_bounded s 0 route ok (limits_at s v) (rw (limits_rest s v) (vehicle_bounded s ok.sheet v own).rest)

  pub alone_endless : priced_of s v route ⊕ inf false ≡ inf false
  unfolding effective_cost
  alone_endless = plus_by eval bounded

  priced_upto : passes s 0 v route ≡ true → Upto (2 ^ 68) (priced_of s v route)
  unfolding effective_cost
  priced_upto e = upto_by eval bounded (allowed_feasible s 0 (limits_at s v) route ∙ e)

-- two rounds that pass
pub added_below : (s : List ℕ) (v : ℕ) → v < vehicles_of s → (with route : List ℕ) → Routed s 0 with → Routed s 0 route → passes s 0 v with ≡ true → passes s 0 v route ≡ true → le (inf false) (priced_of s v with ⊖ priced_of s v route) ≡ false
added_below s v own with route a b e f =
    difference_below (2 ^ 68) (priced_of s v with) (priced_of s v route) (priced_upto s v own with a e) (priced_upto s v own route b f) (exact_scaled 1 68 (omega arith) (omega arith))
