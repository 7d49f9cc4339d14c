-- Whether a depot has a vehicle, said of the vehicles one after another. Assumes nothing.
use mathlib.Core.Path.{◌≡◌, refl}
use Prim.Native.Nat.{ℕ, zero, suc, ◌+◌, ◌≤◌}
use mathlib.Core.Bool.{Bool, true, false, ◌||◌}
use mathlib.Core.List.{List}
use lib.Dec.{eqb}
use lib.ListN.{length}
use Rattle.std.specs.List.{list_any, range_with_len}
use Rattle.lists.specs.Filter.{keep_if, filtered}
use Rattle.lists.specs.Laws.Filter.{those_few}
use Rattle.sheet.specs.Fields.{vehicles_of}
use Rattle.sheet.specs.Values.{vehicle_of}
use Rattle.sheet.specs.Fleet.{fleet_of}
use Rattle.multi_depot_offers.specs.ByDepot.{has_any, has_vehicle}

any_filtered : (p : ℕ → Bool) (n i : ℕ) → list_any p (range_with_len i n) ≡ has_any (filtered p n i)
unfolding filtered
any_filtered p zero i = refl
any_filtered p (suc n) i = go (p i) (any_filtered p n (i + 1))
  where
    go : (b : Bool) → list_any p (range_with_len (i + 1) n) ≡ has_any (filtered p n (i + 1)) → (b || list_any p (range_with_len (i + 1) n)) ≡ has_any (keep_if b i (filtered p n (i + 1)))
    go true e = refl
    go false e = e

pub any_vehicle : (s : List ℕ) (depot : ℕ) → list_any (λ (v : ℕ). eqb (vehicle_of s v).depot depot) (range_with_len 0 (vehicles_of s)) ≡ has_vehicle s depot
unfolding has_vehicle fleet_of
any_vehicle s depot = any_filtered (λ (v : ℕ). eqb (vehicle_of s v).depot depot) (vehicles_of s) 0

pub fleet_small : (s : List ℕ) (depot : ℕ) → length (fleet_of s depot) ≤ vehicles_of s
unfolding fleet_of
fleet_small s depot = those_few (λ v. eqb (vehicle_of s v).depot depot) (vehicles_of s) 0
