-- The tests of a row's numbers, in the forms that the code has them. Assumes nothing.
use mathlib.Core.Path.{◌≡◌, refl}
use mathlib.Core.Bool.{true, false≢true}
use lib.Dec.{leb}
use lib.IntN.{ℤ, pos, negsuc, nat_abs}
use lib.Signed.{le_z}
use Rattle.sheet.specs.Ranges.{demand}
use Rattle.solomon_text.specs.Numbers.{is_up_to}

pub demand_up_to : (z : ℤ) → demand z ≡ is_up_to 1000000 z
unfolding demand
demand_up_to (pos n) = refl
demand_up_to (negsuc n) = refl

-- of numbers from 0 on, the order is that of their sizes
pub up_to_order : (y z : ℤ) → is_up_to 1000000000 y ≡ true → is_up_to 1000000000 z ≡ true → le_z y z ≡ leb (nat_abs y) (nat_abs z)
up_to_order (pos m) (pos n) g h = refl
up_to_order (pos m) (negsuc n) g h = absurd (false≢true h)
up_to_order (negsuc m) z g h = absurd (false≢true g)
