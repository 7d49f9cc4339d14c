-- The 22 digits that `longer_root` adds to a root of 32. Assumes nothing.
use mathlib.Core.Path.{◌≡◌, ap}
use Prim.Native.Nat.{ℕ, ◌+◌, ◌-◌, ◌*◌, ◌/◌, ◌%◌, ◌^◌, ◌≤◌, ◌<◌}
use native.Mathlib.Nat.{mod-lt, div-add-mod', div-le_of_le-mul}
use native.Mathlib.Omega.{arith}
use Rattle.square_root.specs.Laws.Squares.{square_le}

-- r is √n rounded down
abbrev pub IsRoot : ℕ → ℕ → Type 0
IsRoot n r = (r * r ≤ n) × (n < (r + 1) * (r + 1))

-- what r * r lacks of n, divided by twice r, gives the digits q and leaves t
module _ (n r q t : ℕ) (least : r * r ≤ n) (divided : q * r + t ≡ (n - r * r) * 0x20_0000) (t-lt : t < r) where
  lacks : n * 2 ^ 44 + q * q ≡ (r * 0x40_0000 + q) * (r * 0x40_0000 + q) + t * 0x80_0000
  lacks = omega arith

  lowered : (s : ℕ) → s + 1 ≡ r * 0x40_0000 + q → 2 ^ 31 ≤ r → q ≤ 0x40_0000 → t * 0x80_0000 < q * q → IsRoot (n * 2 ^ 44) s
  lowered s i R Q h =
      let g : (s + 1) * (s + 1) ≡ (r * 0x40_0000 + q) * (r * 0x40_0000 + q) = ap (λ (x : ℕ). x * x) i in
      let l : q * q ≤ 0x40_0000 * 0x40_0000 = square_le q 0x40_0000 Q in
      (omega (arith, lacks), omega (arith, lacks))

module _ (n r : ℕ) (root : (r * r ≤ n) × (n < (r + 1) * (r + 1)) × (2 ^ 31 ≤ r)) where
  pub digits_small : (n - r * r) * 0x20_0000 / r ≤ 0x40_0000
  digits_small = div-le_of_le-mul r (omega arith)

  pub left_small : (n - r * r) * 0x20_0000 % r < r
  left_small = mod-lt ((n - r * r) * 0x20_0000) (omega arith)

  divided : (n - r * r) * 0x20_0000 / r * r + (n - r * r) * 0x20_0000 % r ≡ (n - r * r) * 0x20_0000
  divided = div-add-mod' ((n - r * r) * 0x20_0000) r

  pub digits_lowered : (s : ℕ) → (let left = (n - r * r) * 0x20_0000 in s + 1 ≡ r * 0x40_0000 + left / r → left % r * 0x80_0000 < left / r * (left / r) → IsRoot (n * 2 ^ 44) s)
  digits_lowered s i = lowered n r ((n - r * r) * 0x20_0000 / r) ((n - r * r) * 0x20_0000 % r) root.0 divided left_small s i root.2 digits_small
