-- A pattern is at most a maximum exactly when neither its highest bit is set nor that of the maximum less it, at 64 bits. Assumes nothing.
use Rattle.std.proofs.Common.{◌≡◌, refl, ◌∙◌, ℕ, ◌+◌, ◌-◌, ◌%◌, ◌^◌, ◌≤◌, ◌<◌, Bool, true, false, ◌&&◌, List, ltb, leb, bit_or, le_trans, arith, lt-ltb, le-ltb, leb-true, leb-false, ltb-true, ltb-false, add-one}
use Rattle.std.proofs.lemmas.Nat.{le_or_l, le_or_r, or_lt}
use Rattle.wire.specs.Bytes.{u64_at}
use Rattle.numbers.specs.All.{all}
use Rattle.numbers.specs.Laws.Range.{billion}
use Rattle.numbers.specs.Laws.Patterns.{pattern_order}
use Rattle.sheet.specs.Fields.{entry_at}
use Rattle.sheet.specs.Ranges.{amount}

abbrev sign : ℕ
sign = 0x8000_0000_0000_0000

-- the highest bit of three numbers, or-ed
clear : (a b c : ℕ) → a < sign → b < sign → c < sign → ltb (bit_or a (bit_or b c)) sign ≡ true
clear a b c h k l = lt-ltb (bit_or a (bit_or b c)) sign (or_lt 63 a (bit_or b c) h (or_lt 63 b c k l))

set_first : (a b c : ℕ) → sign ≤ a → ltb (bit_or a (bit_or b c)) sign ≡ false
set_first a b c h = le-ltb (bit_or a (bit_or b c)) sign (le_trans h (le_or_l a (bit_or b c)))

set_second : (a b c : ℕ) → sign ≤ b → ltb (bit_or a (bit_or b c)) sign ≡ false
set_second a b c h = le-ltb (bit_or a (bit_or b c)) sign (le_trans h (le_trans (le_or_l b c) (le_or_r a (bit_or b c))))

set_third : (a b c : ℕ) → sign ≤ c → ltb (bit_or a (bit_or b c)) sign ≡ false
set_third a b c h = le-ltb (bit_or a (bit_or b c)) sign (le_trans h (le_trans (le_or_r b c) (le_or_r a (bit_or b c))))

one_sign : (signs bits max : ℕ) → bits < 2 ^ 64 → max < sign
    → ltb (bit_or signs (bit_or bits ((max + (2 ^ 64 - bits)) % 2 ^ 64))) sign ≡ (ltb signs sign && leb bits max)
one_sign signs bits max f g = go (ltb signs sign) (leb bits max) (ltb bits sign) refl refl refl
  where
    rest : ℕ
    rest = (max + (2 ^ 64 - bits)) % 2 ^ 64

    go : (x y z : Bool) → ltb signs sign ≡ x → leb bits max ≡ y → ltb bits sign ≡ z → ltb (bit_or signs (bit_or bits rest)) sign ≡ (x && y)
    go false y z p q r = set_first signs bits rest (ltb-false signs sign p)
    go true true z p q r = let k = leb-true bits max q in clear signs bits rest (ltb-true signs sign p) (omega arith) (omega arith)
    go true false false p q r = set_second signs bits rest (ltb-false bits sign r)
    go true false true p q r = let k = leb-false bits max q in let l = ltb-true bits sign r in set_third signs bits rest (omega arith)

-- ---- the entries of the tables
abbrev entry : List ℕ → ℕ → Bool
entry s k = amount s (entry_at s k)

pub one_more : (s : List ℕ) (k signs bits : ℕ) → bits < 2 ^ 64 → bits ≡ u64_at s (entry_at s k) → ltb signs sign ≡ all (entry s) k
    → ltb (bit_or signs (bit_or bits ((0x41CD_CD65_0000_0000 + (2 ^ 64 - bits)) % 2 ^ 64))) sign ≡ all (entry s) (k + 1)
unfolding all amount
one_more s k signs bits f e h = one_sign signs bits 0x41CD_CD65_0000_0000 f (omega arith) ∙ rw (add-one, e, h, ← billion, pattern_order (u64_at s (entry_at s k)) 0x41CD_CD65_0000_0000 (omega arith)) refl
