-- What the limits of a vehicle of the sheet are. They are unfolded here alone. Assumes nothing.
use Rattle.std.specs.Prelude.{◌≡◌, refl, ℕ, ◌^◌, ◌<◌, Bool, true, false, ◌&&◌, cond, List, T, Float, Option, Some, None}
use Rattle.std.proofs.Common.{sym, subst, lt_of_lt_of_le, arith}
use Rattle.std.specs.Float.Ieee.{lt, le}
use Rattle.numbers.specs.Laws.Upto.{Upto, widen, lt→le}
use Rattle.numbers.specs.Laws.Order.{le_through, not_below_le}
use Rattle.sheet.specs.Fields.{rows_of, vehicles_of, vehicle_at, depot_field}
use Rattle.sheet.specs.Accepted.{Accepted}
use Rattle.sheet.specs.Laws.Depots.{depots_few}
use Rattle.sheet.specs.Laws.Finite.{GateBounded, LimitBounded, stop_bounded}
use Rattle.sheet.specs.Values.{rests_home_at, stop_of, vehicle_of}
use Rattle.sheet.specs.declared.customer.Gate.{Gate}
use Rattle.sheet.specs.declared.customer.Gate.TheVariants.{Open, Hard, Soft}
use Rattle.evaluation.specs.Limits.{latest_return, lower_of, limits_at, within_of, allow_of}

-- the rest is the vehicle's own
pub limits_rest : (s : List ℕ) (v : ℕ) → (limits_at s v).rest ≡ (vehicle_of s v).rest
unfolding limits_at
limits_rest s v = refl

pub limits_home : (s : List ℕ) (v : ℕ) → (limits_at s v).at_home ≡ rests_home_at s v
unfolding limits_at
limits_home s v = refl

-- when the vehicle's rounds have to be home, by its own depot's row
abbrev pub return_of : List ℕ → ℕ → Option Float
return_of s v = latest_return (stop_of s (vehicle_of s v).depot).gate

-- what is allowed: "Over a marked maximum fails."
pub limits_allow : (s : List ℕ) (v : ℕ) (distance duration : Float) → allow_of (limits_at s v) distance duration
    ≡ within_of (vehicle_of s v).max_distance distance && within_of (lower_of (vehicle_of s v).max_duration (return_of s v)) duration
unfolding limits_at allow_of
limits_allow s v distance duration = refl

-- "a vehicle's depot is below the number of depots", which are rows where there is a row at all
pub home_row : (s : List ℕ) (v : ℕ) → Accepted s → v < vehicles_of s → 0 < rows_of s → depot_field s (vehicle_at s v) < rows_of s
home_row s v a h r = lt_of_lt_of_le (a.vehicle v h).depot (depots_few s r)

-- ---- two limits in one
-- what keeps the lower keeps both
lower_keeps : (a b : Option Float) (c : ℕ) (z : Float) → LimitBounded a → LimitBounded b → Upto c z → T (within_of (lower_of a b) z) → T (within_of a z) × T (within_of b z)
lower_keeps None b c z u v w h = (tt, h)
lower_keeps (Some x) None c z u v w h = (h, tt)
lower_keeps (Some x) (Some y) c z u v w h = go (lt y x) refl h
  where
    go : (t : Bool) → lt y x ≡ t → T (within_of (cond t (Some y) (Some x)) z) → T (le z x) × T (le z y)
    go true e h = (le_through c (10 ^ 12) (10 ^ 12) z y x w v u h (lt→le y x (subst T (sym e) tt)), h)
    go false e h = (h, le_through c (10 ^ 12) (10 ^ 12) z x y w u v h (not_below_le (10 ^ 12) (10 ^ 12) x y u v e))

-- and what keeps both keeps the lower
lower_kept : (a b : Option Float) (z : Float) → T (within_of a z) → T (within_of b z) → T (within_of (lower_of a b) z)
lower_kept None b z h k = k
lower_kept (Some x) None z h k = h
lower_kept (Some x) (Some y) z h k = go (lt y x)
  where
    go : (t : Bool) → T (within_of (cond t (Some y) (Some x)) z)
    go true = k
    go false = h

pub lower_within : (a b : Option Float) (c : ℕ) (z : Float) → LimitBounded a → LimitBounded b → Upto c z → within_of (lower_of a b) z ≡ (within_of a z && within_of b z)
lower_within a b c z u v w = go (within_of (lower_of a b) z) (within_of a z) (within_of b z) (lower_keeps a b c z u v w) (lower_kept a b z)
  where
    go : (p q r : Bool) → (T p → T q × T r) → (T q → T r → T p) → p ≡ (q && r)
    go true true true f g = refl
    go true true false f g = absurd (f tt).1
    go true false r f g = absurd (f tt).0
    go false true true f g = absurd (g tt tt)
    go false true false f g = refl
    go false false r f g = refl

-- ---- on an accepted sheet both are numbers
due_bounded : (g : Gate) → GateBounded g → LimitBounded (latest_return g)
due_bounded Open b = tt
due_bounded (Hard w) b = widen (10 ^ 9) (10 ^ 12) w.due (omega arith) b.due
due_bounded (Soft w penalty) b = widen (10 ^ 9) (10 ^ 12) w.due (omega arith) b.0.due

pub return_bounded : (s : List ℕ) (v : ℕ) → Accepted s → (vehicle_of s v).depot < rows_of s → LimitBounded (return_of s v)
return_bounded s v a h = due_bounded (stop_of s (vehicle_of s v).depot).gate (stop_bounded s a (vehicle_of s v).depot h).gate
