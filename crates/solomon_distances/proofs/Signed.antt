-- A difference of two coordinates that were read. Assumes nothing.
use mathlib.Core.Path.{◌≡◌, ◌∙◌}
use Prim.Native.Nat.{ℕ, ◌*◌, ◌≤◌}
use native.Mathlib.Nat.{mul-le-mul}
use native.Mathlib.Omega.{arith}
use lib.Dec.{T, leb→le}
use lib.IntN.{ℤ, nat_abs, ◌-ℤ◌}
use mir.Syntax.{w32}
use mir.Val.{SFits, to_z, of_z}
use mir.ValLaws.{to_z-of_z}
use Rattle.sheet.specs.Ranges.{coordinate}
use Rattle.solomon_distances.specs.Laws.Differences.{abs_bounded}

abbrev read : ℤ → ℤ
read z = to_z w32 (of_z w32 z)

pub size_read : (d : ℕ) (m k x y : ℤ) → SFits w32 m → SFits w32 k → d ≡ nat_abs (read m -ℤ read k) → m ≡ x → k ≡ y → d ≡ nat_abs (x -ℤ y)
size_read d m k x y f g e u v = e ∙ (λ i. nat_abs (to_z-of_z w32 m f i -ℤ to_z-of_z w32 k g i)) ∙ (λ i. nat_abs (u i -ℤ v i))

pub square_bounded : (d : ℕ) (x y : ℤ) → T (coordinate x) → T (coordinate y) → d ≡ nat_abs (x -ℤ y) → d * d ≤ 4000000000000
unfolding coordinate
square_bounded d x y f g e =
    let a = leb→le (nat_abs x) 1000000 f in
    let b = leb→le (nat_abs y) 1000000 g in
    let h : d ≤ 2000000 = omega (arith, abs_bounded x y, e) in
    mul-le-mul h h
