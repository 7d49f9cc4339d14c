-- Little-endian numbers in a list of bytes, over the width.
use Rattle.std.specs.Prelude.{ℕ, zero, suc, ◌+◌, ◌-◌, ◌*◌, ◌/◌, ◌%◌, Bool, true, false, not, List, [], ◌∷◌, ◌++◌, ltb, length, get_or, take, drop, ℤ, pos, negsuc, Float}
use Rattle.std.specs.Float.{binary64}
use Rattle.std.specs.Float.Ieee.{of_bits, nan_bits}

-- the number that the n bytes from `at` on stand for
unfoldable pub le : ℕ → List ℕ → ℕ → ℕ
le zero s at = 0
le (suc n) s at = get_or s at 0 + 256 * le n s (at + 1)

-- the n lowest bytes of a number
unfoldable pub bytes : ℕ → ℕ → List ℕ
bytes zero v = []
bytes (suc n) v = (v % 256) ∷ bytes n (v / 256)

-- the list with xs in the place of as many elements from `at` on
unfoldable pub write : List ℕ → ℕ → List ℕ → List ℕ
write s at xs = take at s ++ (xs ++ drop (at + length xs) s)

abbrev pub u8_at : List ℕ → ℕ → ℕ
u8_at s at = get_or s at 0

abbrev pub u16_at : List ℕ → ℕ → ℕ
u16_at s at = le 2 s at

abbrev pub u32_at : List ℕ → ℕ → ℕ
u32_at s at = le 4 s at

abbrev pub u64_at : List ℕ → ℕ → ℕ
u64_at s at = le 8 s at

-- two's complement at 32 bits
unfoldable pub signed : ℕ → ℤ
signed n = pick (ltb n 0x8000_0000) n
  where
    pick : Bool → ℕ → ℤ
    pick true n = pos n
    pick false n = negsuc (0xffff_ffff - n)

abbrev pub i32_at : List ℕ → ℕ → ℤ
i32_at s at = signed (u32_at s at)

-- an f64 by its bit pattern
unfoldable pub f64_at : List ℕ → ℕ → Float
f64_at s at = of_bits binary64 (u64_at s at)

-- the pattern is no NaN's
unfoldable pub is_number : List ℕ → ℕ → Bool
is_number s at = not (nan_bits binary64 (u64_at s at))
