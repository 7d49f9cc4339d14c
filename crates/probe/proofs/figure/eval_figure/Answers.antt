-- `probe::figure::eval_figure` meets its contract. Assumes nothing.
use Rattle.std.proofs.Common.{◌≡◌, rules, ℕ, Option, Some, None, MatchOption, get_or, Float}
use lib.Ieee.{neg, of_bits}
use Rattle.std.specs.Float.{nan}
use Rattle.evaluation_clock.specs.declared.clock.Schedule.{Schedule}
use Rattle.probe.specs.Figures.{schedule_figures, not_allowed, eval_figure}
use Rattle.probe.proofs.figure.eval_figure.Goals as goal

read : (eval : Option Schedule) (n : ℕ) (r : Float) (P : Schedule → Type 0) → MatchOption eval (r ≡ not_allowed) P → ((k : Schedule) → P k → r ≡ get_or (schedule_figures k) n nan) → r ≡ eval_figure eval n
unfolding eval_figure
read None n r P h f = h
read (Some k) n r P h f = f k h

pub returns : goal.returns
unfolding of_bits neg
returns c = read _ _ _ _ c.map_or.ensures (λ k l. search rules)
