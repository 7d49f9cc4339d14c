-- The vehicles of a depot. Assumes nothing.
use Rattle.std.specs.Prelude.{◌≡◌, refl, ℕ, ◌+◌, ◌<◌, ◌&&◌, List, ◌∷◌, leb, ltb, eqb}
use Rattle.std.proofs.Common.{arith, ltb-true, eqb-true, eq-eqb}
use Rattle.std.specs.Float.Ieee.Bits.{is_true}
use Rattle.lists.specs.Count.{one, count}
use Rattle.lists.specs.Laws.Count.{stop_counted}
use Rattle.lists.specs.Laws.Filter.{those_count}
use Rattle.sheet.specs.Fields.{vehicles_of}
use Rattle.sheet.specs.Values.{vehicle_of}
use Rattle.sheet.specs.Fleet.{fleet_of}
use Rattle.multi_depot_offers.specs.Laws.Settled.{and_first, and_second}

-- each is one of the sheet's, and the depot its own
pub fleet_known : (s : List ℕ) (d v : ℕ) → 0 < count v (fleet_of s d) → (v < vehicles_of s) × ((vehicle_of s v).depot ≡ d)
unfolding fleet_of
fleet_known s d v h =
    let t = is_true _ (stop_counted (leb 0 v && (ltb v (0 + vehicles_of s) && eqb (vehicle_of s v).depot d)) (omega (arith, h, those_count (λ w. eqb (vehicle_of s w).depot d) (vehicles_of s) 0 v))) in
    let u = and_second (leb 0 v) _ t in
    let l = ltb-true v (0 + vehicles_of s) (and_first (ltb v (0 + vehicles_of s)) _ u) in
    (omega arith, eqb-true (vehicle_of s v).depot d (and_second (ltb v (0 + vehicles_of s)) _ u))

-- the first is one of them
pub first_counted : (v : ℕ) (fleet vs : List ℕ) → fleet ≡ v ∷ vs → 0 < count v fleet
unfolding count
first_counted v fleet vs e = let k : one (eqb v v) ≡ 1 = rw (eq-eqb v v refl) refl in rw e (omega arith)
