-- The test of a pattern's range.
use Rattle.std.specs.Prelude.{ℕ, Bool, false, ◌&&◌, ltb, Float}
use Rattle.std.specs.Float.{binary64}
use Rattle.std.specs.Float.Ieee.{round, of_bits, le}

-- the whole number n, and the fraction a / b, as the nearest f64
abbrev pub whole : ℕ → Float
whole n = round binary64 false n 1

abbrev pub fraction : ℕ → ℕ → Float
fraction a b = round binary64 false a b

-- The pattern is that of a number from 0 to max, ends included: its sign is clear (negative zero lies outside), it is no NaN and not above max.
unfoldable pub in_range : ℕ → Float → Bool
in_range n max = ltb n 0x8000_0000_0000_0000 && le (of_bits binary64 n) max
