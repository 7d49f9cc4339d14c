-- The test `is_whole` is right: of the f64 that bits stand for it passes those, and only those, that have a whole value. Assumes nothing.
use Rattle.std.specs.Prelude.{◌≡◌, ℕ, zero, suc, ◌*◌, ◌%◌, ◌^◌, ◌↔◌, true, false, ◌&&◌, T, leb, ltb, eqb, pos, negsuc, Float}
use Rattle.std.proofs.Common.{sym, ap, ◌∙◌, mul-one, one-mul, mul_assoc, pow-suc, arith, true≢false, eqb→eq}
use Rattle.std.proofs.Math.Nat.{mul-mod_left}
use Rattle.std.specs.Float.{nan, inf, fin, binary64}
use Rattle.std.specs.Float.Ieee.{fits, of_bits}
use Rattle.std.specs.Float.Ieee.Fits.{and_l}
use Rattle.std.specs.Float.Ieee.Bits.{of_bits-fits}
use Rattle.lawful.specs.Whole.{is_whole, nat_of, Is}
use Rattle.lawful.specs.Laws.Whole.{whole_is}

-- an even number is not odd
even : (a b : ℕ) → a ≡ b * 2 → a % 2 ≡ 1 → ⊥
even a b e o = let z = sym (mul-mod_left b 2) ∙ ap (λ (k : ℕ). k % 2) (sym e) ∙ o in omega (arith, z)

-- of a float in lowest terms: with an exponent below 0 its mantissa is odd, and a whole value would have it even
has_whole : (x : Float) → T (fits binary64 x) → (n : ℕ) → Is n x → T (is_whole x)
unfolding fits
has_whole nan f n v = absurd v
has_whole (inf s) f n v = absurd v
has_whole (fin true m e) f n v = absurd (true≢false v.0)
has_whole (fin false m (pos e)) f n v = tt
has_whole (fin false zero (negsuc e)) f n v =
    let u : 1 * 2 ^ suc e ≡ 1 = eqb→eq (1 * 2 ^ suc e) 1 f in
    absurd (even (1 * 2 ^ suc e) (2 ^ e) (one-mul (2 ^ suc e) ∙ pow-suc 2 e) (ap (λ (k : ℕ). k % 2) u))
has_whole (fin false (suc m) (negsuc e)) f n v =
    let a = eqb (suc m % 2) 1 in
    let b = ltb (suc m) (2 ^ 53) in
    let c = leb (2 ^ suc e) (2 ^ 1074) in
    let o : suc m % 2 ≡ 1 = eqb→eq (suc m % 2) 1 (and_l a b (and_l (a && b) c (and_l (a && b && c) _ f))) in
    let p : suc m ≡ n * 2 ^ suc e = sym (mul-one (suc m)) ∙ sym (mul-one (suc m * 1)) ∙ v.1 in
    absurd (even (suc m) (n * 2 ^ e) (p ∙ ap (λ (k : ℕ). n * k) (pow-suc 2 e) ∙ sym (mul_assoc n (2 ^ e) 2)) o)

pub whole_exactly : (b : ℕ) → T (is_whole (of_bits binary64 b)) ↔ ((n : ℕ) × Is n (of_bits binary64 b))
whole_exactly b = (λ t. (nat_of (of_bits binary64 b), whole_is (of_bits binary64 b) t), λ v. has_whole (of_bits binary64 b) (of_bits-fits binary64 b) v.0 v.1)
