-- Of a sheet's vehicles it is the one that the plan's reader means by the id, and the first where the reader knows no such id. Assumes nothing.
use Rattle.std.specs.Prelude.{◌≡◌, Bool, List, [], ◌∷◌, eqb, get_or}
use Rattle.std.proofs.Math.Path.{refl}
use Rattle.std.proofs.Common.{◌∙◌, arith}
use Prim.Native.Nat.{ℕ, zero, suc, ◌+◌, ◌≤◌, ◌<◌}
use Rattle.std.proofs.Math.Bool.{true, false, cond}
use Rattle.sheet.specs.declared.vehicle.Vehicle.{Vehicle}
use Rattle.sheet.specs.Fields.{vehicles_of, vehicle_at, id_field}
use Rattle.sheet.specs.Values.{vehicle_of}
use Rattle.sheet.specs.Fleet.{index_from, index_of}
use Rattle.fleet_vehicle.specs.Find.{with_id, no_vehicle, fleet_vehicle}

-- the n vehicles from index v on
unfoldable pub listed_from : List ℕ → ℕ → ℕ → List Vehicle
listed_from s zero v = []
listed_from s (suc n) v = vehicle_of s v ∷ listed_from s n (v + 1)

abbrev pub listed : List ℕ → List Vehicle
listed s = listed_from s (vehicles_of s) 0

module _ (s : List ℕ) (id : ℕ) (fallback : Vehicle) where
  known_from : (n v : ℕ) → index_from s id n v < v + n → with_id id fallback (listed_from s n v) ≡ vehicle_of s (index_from s id n v)
  unfolding listed_from with_id index_from vehicle_of
  known_from zero v h = absurd (omega arith)
  known_from (suc n) v h = go (eqb (id_field s (vehicle_at s v)) id) h (λ l. known_from n (v + 1) l)
    where
      go : (b : Bool) → cond b v (index_from s id n (v + 1)) < v + suc n → (index_from s id n (v + 1) < v + 1 + n → with_id id fallback (listed_from s n (v + 1)) ≡ vehicle_of s (index_from s id n (v + 1)))
          → cond b (vehicle_of s v) (with_id id fallback (listed_from s n (v + 1))) ≡ vehicle_of s (cond b v (index_from s id n (v + 1)))
      go true h r = refl
      go false h r = r (omega arith)

  unknown_from : (n v : ℕ) → v + n ≤ index_from s id n v → with_id id fallback (listed_from s n v) ≡ fallback
  unfolding listed_from with_id index_from vehicle_of
  unknown_from zero v h = refl
  unknown_from (suc n) v h = go (eqb (id_field s (vehicle_at s v)) id) h (λ l. unknown_from n (v + 1) l)
    where
      go : (b : Bool) → v + suc n ≤ cond b v (index_from s id n (v + 1)) → (v + 1 + n ≤ index_from s id n (v + 1) → with_id id fallback (listed_from s n (v + 1)) ≡ fallback)
          → cond b (vehicle_of s v) (with_id id fallback (listed_from s n (v + 1))) ≡ fallback
      go true h r = absurd (omega arith)
      go false h r = r (omega arith)

first_listed : (s : List ℕ) (n : ℕ) → 0 < n → get_or (listed_from s n 0) 0 no_vehicle ≡ vehicle_of s 0
unfolding listed_from
first_listed s zero h = absurd (omega arith)
first_listed s (suc n) h = refl

module _ (s : List ℕ) (id : ℕ) where
  pub known_found : index_of s id < vehicles_of s → fleet_vehicle id (listed s) ≡ vehicle_of s (index_of s id)
  unfolding fleet_vehicle
  known_found h = known_from s id (get_or (listed s) 0 no_vehicle) (vehicles_of s) 0 (omega (arith, h))

  pub unknown_first : 0 < vehicles_of s → vehicles_of s ≤ index_of s id → fleet_vehicle id (listed s) ≡ vehicle_of s 0
  unfolding fleet_vehicle
  unknown_first some h = unknown_from s id (get_or (listed s) 0 no_vehicle) (vehicles_of s) 0 (omega (arith, h)) ∙ first_listed s (vehicles_of s) some
