-- A lawful place, as insertion tells it by the terms of its depot. Assumes nothing.
use Rattle.std.specs.Prelude.{◌≡◌, refl, ℕ, ◌+◌, Bool, true, false, ◌&&◌, List, T, leb}
use Rattle.std.proofs.Common.{ap, ◌∙◌, true≢false}
use Rattle.lists.specs.Moved.{inserted}
use Rattle.sheet.specs.Values.{demand_of, vehicle_of}
use Rattle.evaluation.specs.Feasible.{route_feasible}
use Rattle.evaluation.specs.declared.limits.RouteLimits.{RouteLimits}
use Rattle.constructive.specs.Load.{load_of}
use Rattle.constructive.specs.Laws.Terms.{Meant}
use Rattle.constructive.specs.declared.terms.Terms.{Terms}
use Rattle.insertion.specs.Lawful.{lawful_place}
use Rattle.insertion.specs.Place.{feasible_in, carries}

pub terms_place : (s : List ℕ) (t : Terms) → Meant s t → (route : List ℕ) (row k : ℕ) → (carries s t route row && feasible_in s t (inserted k row route)) ≡ lawful_place s t.depot t.vehicle route row k
terms_place s t m route row k =
    let with = inserted k row route in
    ap (λ (n : ℕ). leb (load_of s route + demand_of s row) n && route_feasible s t.depot t.limits with) m.capacity
    ∙ ap (λ (l : RouteLimits). leb (load_of s route + demand_of s row) (vehicle_of s t.vehicle).capacity && route_feasible s t.depot l with) m.limits

-- ---- two tests of which one fails
pub both_not : (a b : Bool) → (T a → T b → ⊥) → (a && b) ≡ false
both_not true true f = absurd (f tt tt)
both_not true false f = refl
both_not false b f = refl

pub not_both : (a b : Bool) → (a && b) ≡ false → T a → T b → ⊥
not_both true true e f g = true≢false e
not_both true false e f g = g
not_both false b e f g = f
