-- The reason of a stop. Assumes nothing.
use Rattle.std.specs.Prelude.{◌≡◌, refl, ℕ, zero, suc, ◌+◌, ◌≤◌, ◌<◌, ◌↔◌, Bool, true, false, not, ◌&&◌, cond, List, [], ◌∷◌, leb, eqb}
use Rattle.std.proofs.Common.{sym, arith, true≢false, leb-true, leb-false, ne_eqb}
use Rattle.lists.specs.Filter.{filtered}
use Rattle.sheet.specs.Fields.{vehicles_of, method_of}
use Rattle.sheet.specs.Depots.{depots_of}
use Rattle.sheet.specs.Values.{vehicle_of}
use Rattle.sheet.specs.Fleet.{fleet_of}
use Rattle.sheet.specs.Accepted.{Accepted}
use Rattle.multi_depot_offers.specs.ByDepot.{has_any, has_vehicle}
use Rattle.reason.specs.Reason.{last_tried, over_capacity, window_missed, no_rest_place, over_distance, over_duration, over_plain_duration, plain_reason, walked_reason, plainly_asked, lone_reason, some_makes, is_nearest, reason_by, reason_of}
use Rattle.reason.specs.Laws.Tried.{last_tried_manned}

-- ---- vehicles of a number that is no depot's
none_kept : (p : ℕ → Bool) (n i : ℕ) → ((x : ℕ) → x < i + n → p x ≡ false) → filtered p n i ≡ []
unfolding filtered
none_kept p zero i h = refl
none_kept p (suc n) i h = rw (h i (omega arith)) (none_kept p n (i + 1) (λ x l. h x (omega arith)))

pub no_fleet : (s : List ℕ) → Accepted s → (d : ℕ) → depots_of s ≤ d → fleet_of s d ≡ []
unfolding fleet_of vehicle_of
no_fleet s a d h = none_kept (λ v. eqb (vehicle_of s v).depot d) (vehicles_of s) 0 (λ v l. ne_eqb (vehicle_of s v).depot d (λ e. let k = (a.vehicle v (omega arith)).depot in omega arith))

-- ---- which reasons there are
-- those that a vehicle gives
abbrev ByVehicle : ℕ → Type 0
ByVehicle n = (2 ≤ n) × (n ≤ 7)

either : (b : Bool) {m n : ℕ} → ByVehicle m → ByVehicle n → ByVehicle (cond b m n)
either true p q = p
either false p q = q

module _ (s : List ℕ) (d v i : ℕ) where
  plain_range : ByVehicle (plain_reason s d v i)
  unfolding plain_reason
  plain_range = either (over_capacity s v i) (omega arith) (either (over_distance s d v i) (omega arith) (either (over_plain_duration s d v i) (omega arith) (omega arith)))

  walked_range : ByVehicle (walked_reason s d v i)
  unfolding walked_reason
  walked_range = either (window_missed s d i) (omega arith) (either (no_rest_place s d v i) (omega arith) (either (over_distance s d v i) (omega arith) (either (over_duration s d v i) (omega arith) (omega arith))))

  lone_range : ByVehicle (lone_reason s d v i)
  unfolding lone_reason
  lone_range = either (plainly_asked s v) plain_range (either (not (eqb (method_of s) 0) && over_capacity s v i) (omega arith) walked_range)

by_range : (s : List ℕ) (d i : ℕ) (fleet : List ℕ) → has_any fleet ≡ true → ByVehicle (reason_by s d i fleet)
unfolding reason_by
by_range s d i [] t = absurd (true≢false (sym t))
by_range s d i (v ∷ vs) t = either (is_nearest s && some_makes s d i vs) (omega arith) (lone_range s d v i)

-- THE REASON is one of 1 to 7
pub reason_range : (s : List ℕ) (i : ℕ) → (1 ≤ reason_of s i) × (reason_of s i ≤ 7)
unfolding reason_of reason_by
reason_range s i = go (fleet_of s (last_tried s i))
  where
    go : (fleet : List ℕ) → (1 ≤ reason_by s (last_tried s i) i fleet) × (reason_by s (last_tried s i) i fleet ≤ 7)
    go [] = (omega arith, omega arith)
    go (v ∷ vs) = let r = by_range s (last_tried s i) i (v ∷ vs) refl in (omega arith, omega arith)

-- and 1 exactly if the sheet has no vehicle
pub reason_no_vehicle : (s : List ℕ) → Accepted s → (i : ℕ) → (reason_of s i ≡ 1) ↔ (vehicles_of s ≡ 0)
unfolding reason_of reason_by has_vehicle fleet_of filtered
reason_no_vehicle s a i = (λ e. go (leb (vehicles_of s) 0) refl e, none)
  where
    none : vehicles_of s ≡ 0 → reason_by s (last_tried s i) i (fleet_of s (last_tried s i)) ≡ 1
    none e = rw e

    go : (b : Bool) → leb (vehicles_of s) 0 ≡ b → reason_by s (last_tried s i) i (fleet_of s (last_tried s i)) ≡ 1 → vehicles_of s ≡ 0
    go true t e = let l = leb-true (vehicles_of s) 0 t in omega arith
    go false t e = let r = by_range s (last_tried s i) i (fleet_of s (last_tried s i)) (last_tried_manned s a i (leb-false (vehicles_of s) 0 t)).1 in absurd (omega arith)
