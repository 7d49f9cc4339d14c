-- What the code that judges places asks and keeps: the round on trial, the stops that may join it, and the prices of the soft rules.
use Rattle.std.specs.Prelude.{◌≡◌, ℕ, ◌≤◌, ◌<◌, false, not, ◌&&◌, cond, List, [], ◌∷◌, T, length, Float, Option, Some, None}
use Rattle.std.specs.Float.Ieee.{le}
use Rattle.sheet.specs.Fields.{most_rows}
use Rattle.lists.specs.Every.{Every}
use Rattle.lists.specs.Moved.{inserted}
use Rattle.evaluation_clock.specs.Sums.{◌⊕◌, ◌⊖◌}
use Rattle.evaluation.specs.Limits.{is_unlimited}
use Rattle.evaluation.specs.Routed.{Routed}
use Rattle.constructive.specs.Unchecked.{Windowless}
use Rattle.constructive.specs.declared.terms.Terms.{Terms}
use Rattle.insertion.specs.declared.place.Prices.{Prices}
use Rattle.insertion.specs.Place.{feasible_in, cost_in, Judged, judged}

-- the round with a stop in it, at a place
-- (a clause: of the lent table, the round, its row and place at once)
pub record Trial (route : List ℕ) (row at : ℕ) (trial : List ℕ) : Type 0 where
  pub place : at ≤ length route
  pub holds : trial ≡ inserted at row route

-- where the terms ask for no check, a walk would pass every round, and no window is soft
pub record Unwalked (s : List ℕ) (t : Terms) (route left : List ℕ) : Type 0 where
  pub hard : t.constrained ≡ false → t.soft ≡ false
  pub free : t.constrained ≡ false → T (is_unlimited t.limits)
  pub round : t.constrained ≡ false → Every (Windowless s) route
  pub unrouted : t.constrained ≡ false → Every (Windowless s) left

-- a round with room for one more, and the stops that may join it
-- (a clause: of sheet, terms, round and stops at once)
pub record Joinable (s : List ℕ) (t : Terms) (route left : List ℕ) : Type 0 where
  pub round : Routed s t.depot route
  pub unrouted : Routed s t.depot left
  pub room : length route < most_rows
  pub unwalked : Unwalked s t route left

-- ---- the soft rules
-- what a round costs, where that is asked
abbrev pub soft_cost : List ℕ → Terms → List ℕ → Option Float
soft_cost s t route = cond t.soft (Some (cost_in s t route)) None

-- "below going alone plus the fixed cost"
abbrev pub alone_cost : List ℕ → Terms → ℕ → Float
alone_cost s t row = cost_in s t (row ∷ []) ⊕ t.fixed

-- what one stop is judged by, at every place
abbrev pub prices_of : List ℕ → Terms → List ℕ → ℕ → Option Prices
prices_of s t route row = cond t.soft (Some (record { round = cost_in s t route; alone = alone_cost s t row })) None

-- the round on trial, judged as it stands
abbrev pub added_by : List ℕ → Terms → Prices → List ℕ → Float
added_by s t p trial = cost_in s t trial ⊖ p.round

unfoldable pub judge_trial : List ℕ → Terms → Prices → List ℕ → Judged
judge_trial s t p trial = judged (feasible_in s t trial && not (le p.alone (added_by s t p trial))) (added_by s t p trial)
