-- Where the Rust checks no round, `route_feasible` would pass every one: no stop has a window, and the vehicle sets no limit. Assumes nothing.
use Rattle.std.specs.Prelude.{◌≡◌, refl, ℕ, Bool, ◌||◌, List, [], ◌∷◌}
use Rattle.std.proofs.Math.Bool.{true, false, not}
use Rattle.std.proofs.Common.{true≢false}
use Rattle.std.proofs.Math.Dec.{T}
use Rattle.lists.specs.Every.{Every}
use Rattle.evaluation.specs.declared.limits.RouteLimits.{RouteLimits}
use Rattle.evaluation.specs.Limits.{is_unlimited}
use Rattle.evaluation.specs.Feasible.{route_feasible}
use Rattle.evaluation.specs.Laws.Verdict.{unwindowed_feasible}
use Rattle.evaluation.specs.Checks.{row_windowed, some_windowed, has_time_windows, route_checks_needed}
use Rattle.constructive.specs.Unchecked.{Windowless}

windowless_some : (s route : List ℕ) → Every (Windowless s) route → some_windowed false s route ≡ false
unfolding some_windowed
windowless_some s [] e = refl
windowless_some s (row ∷ rows) e = rw e.0 (windowless_some s rows e.1)

pub free_feasible : (s : List ℕ) (depot : ℕ) (limits : RouteLimits) → T (is_unlimited limits) → (route : List ℕ) → Every (Windowless s) route → T (route_feasible s depot limits route)
free_feasible s depot limits free route e = unwindowed_feasible s depot limits free route (windowless_some s route e)

-- ---- what it means that no check is needed
pub neither : (a b : Bool) → (a || b) ≡ false → (a ≡ false) × (b ≡ false)
neither true b e = absurd (true≢false e)
neither false b e = (refl, e)

windowless_each : (s members : List ℕ) → some_windowed false s members ≡ false → Every (Windowless s) members
unfolding some_windowed
windowless_each s [] e = tt
windowless_each s (row ∷ rows) e =
    let n = neither (row_windowed false s row) (some_windowed false s rows) e in
    (n.0, windowless_each s rows n.1)

module _ (s : List ℕ) (depot : ℕ) (members : List ℕ) (limits : RouteLimits) (e : route_checks_needed s depot members limits ≡ false) where
  pub unchecked_free : T (is_unlimited limits)
  unfolding route_checks_needed
  unchecked_free = go (is_unlimited limits) (neither (has_time_windows s depot members) (not (is_unlimited limits)) e).1
    where
      go : (b : Bool) → not b ≡ false → T b
      go true e = tt
      go false e = absurd (true≢false e)

  pub unchecked_windowless : Every (Windowless s) members
  unfolding route_checks_needed has_time_windows
  unchecked_windowless =
      let n = neither (has_time_windows s depot members) (not (is_unlimited limits)) e in
      windowless_each s members (neither (row_windowed false s depot) (some_windowed false s members) n.0).1
