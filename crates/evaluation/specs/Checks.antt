-- docs/SCOPE.md#the-walk-of-a-round. "A window on a depot row switches checking on, with a penalty also the soft rules below, and otherwise does nothing." Since request One its due is a limit too (Limits.antt).
-- "Each depot is planned on its own rows alone: symmetry, windows and penalties are read from those only."
use Rattle.std.specs.Prelude.{ℕ, Bool, true, false, not, ◌||◌, List, [], ◌∷◌}
use Rattle.sheet.specs.Values.{stop_of}
use Rattle.sheet.specs.declared.customer.Gate.{Gate}
use Rattle.sheet.specs.declared.customer.Gate.TheVariants.{Open, Hard, Soft}
use Rattle.evaluation.specs.declared.limits.RouteLimits.{RouteLimits}
use Rattle.evaluation.specs.Limits.{is_unlimited}

-- whether a gate has a window, or with `soft` a "window and penalty on one stop"
abbrev pub windowed : Bool → Gate → Bool
windowed soft Open = false
windowed soft (Hard w) = not soft
windowed soft (Soft w penalty) = true

-- the gate of a row
abbrev pub row_windowed : Bool → List ℕ → ℕ → Bool
row_windowed soft s row = windowed soft (stop_of s row).gate

-- of some row of a list
unfoldable pub some_windowed : Bool → List ℕ → List ℕ → Bool
some_windowed soft s [] = false
some_windowed soft s (row ∷ rows) = row_windowed soft s row || some_windowed soft s rows

-- of the depot's row and the members'
abbrev pub any_windowed : Bool → List ℕ → ℕ → List ℕ → Bool
any_windowed soft s depot members = row_windowed soft s depot || some_windowed soft s members

-- "A window on a depot row switches checking on", as any row's does
unfoldable pub has_time_windows : List ℕ → ℕ → List ℕ → Bool
has_time_windows s depot members = any_windowed false s depot members

-- "with a penalty also the soft rules"
unfoldable pub has_soft_windows : List ℕ → ℕ → List ℕ → Bool
has_soft_windows s depot members = any_windowed true s depot members

-- the Rust asks `route_feasible` only where a row has a window or the vehicle sets a limit
unfoldable pub route_checks_needed : List ℕ → ℕ → List ℕ → RouteLimits → Bool
route_checks_needed s depot members limits = has_time_windows s depot members || not (is_unlimited limits)
