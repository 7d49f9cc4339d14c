-- The square root of a whole number as the nearest f64. There are no real numbers here: what is said of √n is said of squares.
use Rattle.std.specs.Prelude.{ℕ, ◌+◌, ◌*◌, ◌<◌, Bool, true, false, T, Float}
use Rattle.std.specs.Float.{nan, inf, fin, binary64}
use Rattle.std.specs.Float.Ieee.{fits, lt}
use Rattle.std.specs.Float.Ieee.Positive.{num, den}

-- finite, with the sign clear: a number from 0 up, and not -0
abbrev pub unsigned_finite : Float → Bool
unsigned_finite nan = false
unsigned_finite (inf s) = false
unsigned_finite (fin true m e) = false
unsigned_finite (fin false m e) = true

-- Of x = num x / den x and y likewise: twice the middle between them, which is x + y, in units of 1 / (den x * den y)
abbrev pub twice_middle : Float → Float → ℕ
twice_middle x y = num x * den y + num y * den x

-- twice √n in the same units, squared
abbrev pub twice_root_squared : ℕ → Float → Float → ℕ
twice_root_squared n x y = 4 * n * (den x * den y * (den x * den y))

-- x is the f64 nearest to √n: the middle between x and any other f64 y from 0 up lies on y's side of √n.
-- There is no tie up to n = 2 ^ 106: √n is irrational, as no middle is, or it is whole and an f64 itself.
pub record ClosestRoot (n : ℕ) (x : Float) : Type 0 where
  pub number : T (fits binary64 x)
  pub plain : T (unsigned_finite x)
  pub above : (y : Float) → T (fits binary64 y) → T (unsigned_finite y) → T (lt x y) → twice_root_squared n x y < twice_middle x y * twice_middle x y
  pub below : (y : Float) → T (fits binary64 y) → T (unsigned_finite y) → T (lt y x) → twice_middle x y * twice_middle x y < twice_root_squared n x y
