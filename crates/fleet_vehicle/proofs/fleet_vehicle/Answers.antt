-- `fleet_vehicle::fleet_vehicle` meets its contract. Assumes nothing.
use Rattle.std.proofs.Common.{◌≡◌, ℕ, Bool, true, false, cond, List, [], ◌∷◌, eqb, refl, ap, ◌∙◌}
use Rattle.std.specs.Prelude.{find, unwrap_or, Some}
use Rattle.std.proofs.lemmas.List.{get_or_default}
use Rattle.sheet.specs.declared.vehicle.Vehicle.{Vehicle}
use Rattle.fleet_vehicle.specs.Find.{with_id, no_vehicle, fleet_vehicle}
use Rattle.fleet_vehicle.proofs.fleet_vehicle.Goals as goal

found : (id : ℕ) (fallback : Vehicle) (vehicles : List Vehicle) → unwrap_or (find (λ v. eqb v.id id) vehicles) fallback ≡ with_id id fallback vehicles
unfolding with_id
found id fallback [] = refl
found id fallback (v ∷ vs) = go (eqb v.id id) (found id fallback vs)
  where
    go : (b : Bool) → unwrap_or (find (λ v. eqb v.id id) vs) fallback ≡ with_id id fallback vs → unwrap_or (cond b (Some v) (find (λ v. eqb v.id id) vs)) fallback ≡ cond b v (with_id id fallback vs)
    go true e = refl
    go false e = e

pub returns : goal.returns
unfolding fleet_vehicle
returns c =
    let vs = c.args.vehicles.now in
    rw c.with_id.ensures at c.unwrap_or.ensures ∙ found c.args.id _ vs ∙ ap (λ (v : Vehicle). with_id c.args.id v vs) (get_or_default vs 0 _ no_vehicle c.requires)
