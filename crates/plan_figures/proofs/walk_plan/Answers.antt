-- `plan_figures::walk_plan` meets its contract. Assumes nothing.
use mathlib.Core.Path.{◌∙◌}
use Rattle.plan_figures.proofs.Entering.{placed, first, walked}
use Rattle.plan_figures.proofs.walk_plan.Goals as goal

pub walk_rounds-requires : goal.walk_rounds-requires
walk_rounds-requires c = let e = c.in_ok-rounds.ensures.entry_as in rw (c.new.ensures, c.as_ref.ensures.stops, c.as_ref.ensures.ends, c.as_ref.ensures.vehicles, placed _ _ _ _ _ _ _ _ e c.args.figures.now c.requires) (_, e.read.tables)

pub returns-clause-walked : goal.returns-clause-walked
returns-clause-walked c =
    let e = c.in_ok-rounds.ensures.entry_as in
    let long = placed _ _ _ _ _ _ _ _ e c.args.figures.now c.requires in
    walked _ _ _ _ _ _ _ _ e _ (first _ _ _ (c.walk_rounds.auto.figures ∙ long) ∙ rw (c.new.ensures, c.as_ref.ensures.stops, c.as_ref.ensures.ends, c.as_ref.ensures.vehicles, long) at c.walk_rounds.ensures)
