-- `evaluation::cost` meets its contract. Assumes nothing.
use Rattle.std.proofs.Common.{◌≡◌, rules, Option, Some, None, MatchOption, Float}
use lib.Ieee.{inf, of_bits}
use mathlib.Core.Bool.{false}
use Rattle.evaluation_clock.specs.declared.clock.Schedule.{Schedule}
use Rattle.evaluation.specs.Feasible.{priced_distance, cost_of}
use Rattle.evaluation.proofs.cost.Goals as goal

read : (eval : Option Schedule) (r : Float) (P : Schedule → Type 0) → MatchOption eval (r ≡ inf false) P → ((k : Schedule) → P k → r ≡ priced_distance k) → r ≡ cost_of eval
unfolding cost_of
read None r P h f = h
read (Some k) r P h f = f k h

pub returns : goal.returns
unfolding of_bits
returns c = read _ _ _ c.map_or.ensures (λ k l. search rules)
