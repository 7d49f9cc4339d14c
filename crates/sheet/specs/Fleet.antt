-- docs/SCOPE.md#the-sheet. The vehicles of a sheet, by their index: those of a depot, and the one with an id.
use Rattle.std.specs.Prelude.{ℕ, zero, suc, ◌+◌, cond, List, eqb}
use Rattle.lists.specs.Filter.{filtered}
use Rattle.sheet.specs.Fields.{vehicles_of, vehicle_at, id_field}
use Rattle.sheet.specs.Values.{vehicle_of}

-- the vehicle with an id among the n from index v on, by its index; the one past them where none has it
unfoldable pub index_from : List ℕ → ℕ → ℕ → ℕ → ℕ
index_from s id zero v = v
index_from s id (suc n) v = cond (eqb (id_field s (vehicle_at s v)) id) v (index_from s id n (v + 1))

abbrev pub index_of : List ℕ → ℕ → ℕ
index_of s id = index_from s id (vehicles_of s) 0

-- the vehicles of a depot, by their index, ascending
unfoldable pub fleet_of : List ℕ → ℕ → List ℕ
fleet_of s depot = filtered (λ v. eqb (vehicle_of s v).depot depot) (vehicles_of s) 0
