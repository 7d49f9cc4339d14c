-- The order of f64s that are finite and not negative, as that of the fractions that they are, and through a sum. Assumes nothing.
use Rattle.std.specs.Prelude.{◌≡◌, refl, ℕ, zero, suc, ◌+◌, ◌*◌, ◌≤◌, ◌<◌, true, false, T, Float}
use Rattle.std.proofs.Common.{sym, subst, zero-le, le_trans, le_of_eq, le-add_right, zero-mul, mul_assoc, mul_right_comm, mul-le-mul_right, mul-pos, true≢false, ltb-false}
use Rattle.std.specs.Float.{nan, inf, fin, binary64}
use Rattle.std.specs.Float.Ieee.{up, down, round, sum, add, lt, le, fits}
use Rattle.std.specs.Float.Ieee.Fits.{down_pos}
use Rattle.std.specs.Float.Ieee.Exact.{HasValue}
use Rattle.std.specs.Float.Ieee.Order.{transfer, le_of_values, round_mono}
use Rattle.std.specs.Float.Ieee.Positive.{num, den, den_pos, through}
use Rattle.numbers.specs.Laws.Upto.{Upto, Exact, or_le, add_upto}
use Rattle.numbers.specs.Laws.Thousandth.{held, own_value}

-- its value is its own fraction
upto_value : (n : ℕ) (x : Float) → Upto n x → HasValue x false (num x) (den x)
upto_value n nan u = u
upto_value n (inf s) u = absurd u
upto_value n (fin true m e) u = absurd u
upto_value n (fin false m e) u = (refl, refl)

values_le : (x y : Float) (a c b d : ℕ) → HasValue x false a c → HasValue y false b d → T (le x y) → a * d ≤ b * c
unfolding le
values_le nan y a c b d p q h = absurd p
values_le (inf s) y a c b d p q h = absurd p
values_le (fin true m e) y a c b d p q h = absurd (true≢false p.0)
values_le (fin false m e) nan a c b d p q h = absurd q
values_le (fin false m e) (inf t) a c b d p q h = absurd q
values_le (fin false m e) (fin true k i) a c b d p q h = absurd (true≢false q.0)
values_le (fin false m e) (fin false k i) a c b d p q h =
    transfer a b c d (m * up e) (k * up i) (down e) (down i) (down_pos e) (down_pos i) (sym p.1) (sym q.1) (or_le (m * up e * down i) (k * up i * down e) h)

pub le_through : (a b c : ℕ) (x y z : Float) → Upto a x → Upto b y → Upto c z → T (le x y) → T (le y z) → T (le x z)
le_through a b c x y z u v w h k =
    let p = upto_value a x u in
    let q = upto_value b y v in
    let r = upto_value c z w in
    le_of_values x z (num x) (den x) (num z) (den z) (den_pos x) (den_pos z) p r
    (through (num x) (num y) (num z) (den x) (den y) (den z) (den_pos y) (values_le x y (num x) (den x) (num y) (den y) p q h) (values_le y z (num y) (den y) (num z) (den z) q r k))

pub not_below_le : (a b : ℕ) (x y : Float) → Upto a x → Upto b y → lt y x ≡ false → T (le x y)
unfolding lt
not_below_le a b nan y u v h = absurd u
not_below_le a b (inf s) y u v h = absurd u
not_below_le a b (fin true m e) y u v h = absurd u
not_below_le a b (fin false m e) nan u v h = absurd v
not_below_le a b (fin false m e) (inf s) u v h = absurd v
not_below_le a b (fin false m e) (fin true k d) u v h = absurd v
not_below_le a b (fin false m e) (fin false k d) u v h =
    le_of_values (fin false m e) (fin false k d) (m * up e) (down e) (k * up d) (down d) (down_pos e) (down_pos d) (refl, refl) (refl, refl)
    (ltb-false (k * up d * down e) (m * up e * down d) h)

-- ---- what is not above y is not above a sum of y and z, rounded: it is an f64, and rounding keeps the order
below_round : (n i a c : ℕ) (x : Float) → T (fits binary64 x) → Upto n x → Upto i (round binary64 false a c) → 0 < c → num x * c ≤ a * den x → T (le x (round binary64 false a c))
below_round n i a c nan f u v C h = absurd u
below_round n i a c (inf s) f u v C h = absurd u
below_round n i a c (fin true m e) f u v C h = absurd u
below_round n i a c (fin false zero e) f u v C h =
    let w = round binary64 false a c in
    le_of_values (fin false zero e) w (zero * up e) (down e) (num w) (den w) (down_pos e) (den_pos w) (refl, refl) (upto_value i w v)
    (subst (λ (k : ℕ). k * den w ≤ num w * down e) (sym (zero-mul (up e))) (subst (λ (k : ℕ). k ≤ num w * down e) (sym (zero-mul (den w))) zero-le))
below_round n i a c (fin false (suc m) e) f u v C h =
    let w = round binary64 false a c in
    le_of_values (fin false (suc m) e) w (suc m * up e) (down e) (num w) (den w) (down_pos e) (den_pos w) (refl, refl) (upto_value i w v)
    (values_le (round binary64 false (suc m * up e) (down e)) w (suc m * up e) (down e) (num w) (den w) (own_value (suc m) e (held m e f)) (upto_value i w v)
    (round_mono binary64 (suc m * up e) (down e) a c (down_pos e) C h))

pub below_sum : (n a b i : ℕ) (x y z : Float) → T (fits binary64 x) → Upto n x → Upto a y → Upto b z → a + b ≤ i → Exact i → T (le x y) → T (le x (add binary64 y z))
unfolding add sum
below_sum n a b i x nan z f u v w k o h = absurd v
below_sum n a b i x (inf s) z f u v w k o h = absurd v
below_sum n a b i x (fin true m e) z f u v w k o h = absurd v
below_sum n a b i x (fin false m e) nan f u v w k o h = absurd w
below_sum n a b i x (fin false m e) (inf s) f u v w k o h = absurd w
below_sum n a b i x (fin false m e) (fin true l d) f u v w k o h = absurd w
below_sum n a b i x (fin false m e) (fin false l d) f u v w k o h =
    below_round n i (m * up e * down d + l * up d * down e) (down e * down d) x f u (add_upto a b i (fin false m e) (fin false l d) v w k o) (mul-pos (down_pos e) (down_pos d))
    (le_trans (le_of_eq (sym (mul_assoc (num x) (down e) (down d))))
    (le_trans (mul-le-mul_right (down d) (values_le x (fin false m e) (num x) (den x) (m * up e) (down e) (upto_value n x u) (refl, refl) h))
    (le_trans (le_of_eq (mul_right_comm (m * up e) (den x) (down d))) (mul-le-mul_right (den x) (le-add_right (m * up e * down d) (l * up d * down e))))))
