-- Tests of a signed field as its pattern, and of the header's spare bytes. Assumes nothing.
use mathlib.Core.Path.{◌≡◌, refl, sym, ◌∙◌, subst}
use Prim.Native.Nat.{ℕ, zero, suc, ◌+◌, ◌*◌, ◌^◌}
use native.Mathlib.Omega.{arith}
use mathlib.Core.Bool.{Bool, true, false, not}
use mathlib.Core.List.{List}
use lib.Dec.{T, leb, ltb, eqb}
use borrow.Author.Tests.{lt-leb, ne_eqb, ltb-false}
use lib.Ieee.{binary64, nan_bits}
use Rattle.wire.specs.Bytes.{le, u64_at, signed}
use Rattle.wire.specs.Laws.Bytes.{le_split}
use Rattle.sheet.specs.Fields.{spare_of}
use Rattle.numbers.specs.Range.{whole}
use Rattle.numbers.specs.Laws.Range.{in_range_number}
use Rattle.sheet.specs.declared.method.Method.{Method}
use Rattle.sheet.specs.declared.method.Method.TheVariants.{Savings, Insertion, NearestNeighbor, NearestNeighborTw, Sweep}
use Rattle.sheet.specs.Method.{code_of}
use Rattle.sheet.specs.Ranges.{demand, capacity, amount}

pub capacity_test : (n : ℕ) → ltb n 0x8000_0000 ≡ capacity (signed n)
unfolding capacity signed
capacity_test n = go (ltb n 0x8000_0000) refl
  where
    go : (b : Bool) → ltb n 0x8000_0000 ≡ b → ltb n 0x8000_0000 ≡ capacity (signed n)
    go true e = rw e
    go false e = rw e

pub demand_test : (n : ℕ) → leb n 1000000 ≡ demand (signed n)
unfolding demand signed
demand_test n = go (ltb n 0x8000_0000) refl
  where
    go : (b : Bool) → ltb n 0x8000_0000 ≡ b → leb n 1000000 ≡ demand (signed n)
    go true e = rw e
    go false e = rw (e, lt-leb n 1000000 (omega (arith, ltb-false n 0x8000_0000 e)))

-- the ten spare bytes as two and eight
module _ (s : List ℕ) where
  spare_split : spare_of s ≡ le 2 s 6 + 65536 * le 8 s 8
  unfolding spare_of
  spare_split = le_split 2 8 s 6

  pub spare_low : (le 2 s 6 ≡ 0 → ⊥) → eqb (spare_of s) 0 ≡ false
  spare_low h = ne_eqb (spare_of s) 0 (λ e. h (omega (arith, spare_split)))

  pub spare_high : le 2 s 6 ≡ 0 → eqb (le 8 s 8) 0 ≡ eqb (spare_of s) 0
  spare_high h = rw (spare_split, h) (go (le 8 s 8))
    where
      go : (n : ℕ) → eqb n 0 ≡ eqb (0 + 65536 * n) 0
      go zero = refl
      go (suc n) = ne_eqb (suc n) 0 (λ e. omega arith) ∙ sym (ne_eqb (0 + 65536 * suc n) 0 (λ e. omega arith))

-- at most 0 is 0
pub at_most_none : (n : ℕ) → leb n 0 ≡ eqb n 0
at_most_none zero = refl
at_most_none (suc n) = lt-leb (suc n) 0 (omega arith) ∙ sym (ne_eqb (suc n) 0 (λ e. omega arith))

-- a test that passed
pub passed : (a b : Bool) → a ≡ b → a ≡ true → T b
passed a b e f = subst T (sym (sym e ∙ f)) tt

-- what lies in a range is a number
pub amount_number : (s : List ℕ) (at n : ℕ) → n ≡ u64_at s at → T (amount s at) → T (not (nan_bits binary64 n))
unfolding amount
amount_number s at n e t = rw e (in_range_number (u64_at s at) (whole (10 ^ 9)) t)

-- a method's number is one of the five
pub five : {n : ℕ} (method : Method) → code_of method ≡ n → leb n 4 ≡ true
five Savings e = rw (← e)
five Insertion e = rw (← e)
five NearestNeighbor e = rw (← e)
five NearestNeighborTw e = rw (← e)
five Sweep e = rw (← e)
