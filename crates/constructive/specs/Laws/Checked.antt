-- A constructor asks `route_feasible` only where `route_checks_needed` says so. A round that stands by that is feasible all the same. Assumes nothing.
use Rattle.std.specs.Prelude.{◌≡◌, refl, ℕ, Bool, true, false, not, ◌||◌, List, T}
use Rattle.std.proofs.Common.{sym, ◌∙◌, true≢false}
use Rattle.lists.specs.Every.{Every}
use Rattle.lists.specs.Laws.Every.{every_of, every_map}
use Rattle.evaluation.specs.declared.limits.RouteLimits.{RouteLimits}
use Rattle.evaluation.specs.Feasible.{route_feasible}
use Rattle.evaluation.specs.Checks.{route_checks_needed}
use Rattle.constructive.specs.Unchecked.{Windowless}
use Rattle.constructive.specs.Laws.Unchecked.{free_feasible, unchecked_free, unchecked_windowless}

module _ (s : List ℕ) (depot : ℕ) (members : List ℕ) (limits : RouteLimits) where
  abbrev pub checked : Bool
  checked = route_checks_needed s depot members limits

  -- a member has no window, unless rounds are checked
  abbrev pub Known : ℕ → Type 0
  Known row = checked ≡ false → Windowless s row

  pub members_known : Every Known members
  members_known = go checked refl
    where
      go : (b : Bool) → checked ≡ b → Every Known members
      go true e = every_of Known 0 members (λ k l h. absurd (true≢false (sym e ∙ h)))
      go false e = every_map (Windowless s) Known (λ row w h. w) members (unchecked_windowless s depot members limits e)

  -- so a round of members that stands where it is checked is feasible
  pub stands_feasible : (stops : List ℕ) → Every Known stops → T (not checked || route_feasible s depot limits stops) → T (route_feasible s depot limits stops)
  stands_feasible stops k h = go checked refl h
    where
      go : (b : Bool) → checked ≡ b → T (not b || route_feasible s depot limits stops) → T (route_feasible s depot limits stops)
      go true e h = h
      go false e h = free_feasible s depot limits (unchecked_free s depot members limits e) stops (every_map Known (Windowless s) (λ row f. f e) stops k)
