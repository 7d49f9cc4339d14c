-- The terms of one depot whose rounds are all made by one vehicle: "Savings, insertion and sweep use the depot's first vehicle for all rounds."
use Rattle.std.specs.Prelude.{◌≡◌, refl, ℕ, true, false, not, ◌||◌, List, [], ◌∷◌}
use Rattle.std.proofs.lemmas.Bool.{or_parts}
use Rattle.sheet.specs.declared.customer.Gate.{Gate}
use Rattle.sheet.specs.declared.customer.Gate.TheVariants.{Open, Hard, Soft}
use Rattle.sheet.specs.Values.{stop_of}
use Rattle.evaluation.specs.Limits.{is_unlimited}
use Rattle.evaluation.specs.Checks.{windowed, row_windowed, some_windowed, has_time_windows, has_soft_windows, route_checks_needed}
use Rattle.evaluation.specs.declared.limits.RouteLimits.{RouteLimits}
use Rattle.sheet.specs.Values.{vehicle_of}
use Rattle.evaluation.specs.Limits.{limits_at}
use Rattle.constructive.specs.declared.terms.Terms.{Terms}
use Rattle.constructive.specs.Terms.{terms_of}

-- terms that say what their vehicle has
pub record Meant (s : List ℕ) (t : Terms) : Type 0 where
  pub capacity : t.capacity ≡ (vehicle_of s t.vehicle).capacity
  pub limits : t.limits ≡ limits_at s t.vehicle

pub terms_meant : (s : List ℕ) (depot v : ℕ) (members : List ℕ) → Meant s (terms_of s depot v members)
unfolding terms_of
terms_meant s depot v members = record { capacity = refl; limits = refl }

-- ---- a window with a penalty is a window, so that where rounds are not checked there is none
pub gate_open : (g : Gate) → windowed false g ≡ false → windowed true g ≡ false
gate_open Open e = refl
gate_open (Hard w) e = refl
gate_open (Soft w penalty) e = e

pub none_soft : (s rows : List ℕ) → some_windowed false s rows ≡ false → some_windowed true s rows ≡ false
unfolding some_windowed
none_soft s [] e = refl
none_soft s (row ∷ rows) e =
    rw (gate_open (stop_of s row).gate (or_parts (row_windowed false s row) (some_windowed false s rows) e).0) (none_soft s rows (or_parts (row_windowed false s row) (some_windowed false s rows) e).1)

pub unchecked_hard : (s : List ℕ) (depot : ℕ) (members : List ℕ) (limits : RouteLimits) → route_checks_needed s depot members limits ≡ false → has_soft_windows s depot members ≡ false
unfolding route_checks_needed has_time_windows has_soft_windows
unchecked_hard s depot members limits e =
    let w = (or_parts (row_windowed false s depot || some_windowed false s members) (not (is_unlimited limits)) e).0 in
    rw (gate_open (stop_of s depot).gate (or_parts (row_windowed false s depot) (some_windowed false s members) w).0) (none_soft s members (or_parts (row_windowed false s depot) (some_windowed false s members) w).1)
