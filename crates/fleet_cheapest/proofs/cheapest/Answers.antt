-- `fleet_cheapest::cheapest` meets its contract. Assumes nothing.
use mathlib.Core.Path.{◌∙◌}
use Rattle.fleet_cheapest.proofs.Pending.{goes_on, done}
use Rattle.fleet_cheapest.proofs.cheapest.Goals as goal

pub loop-j-preserved : goal.loop-j-preserved
loop-j-preserved c = record {
  picking = goes_on c.loop-j.invariant.picking _ c.loop-j-test.true (rw (← c.cheapest_insertion-choice.ensures) c.pick_with-best.ensures);
  long = c.cheapest_insertion-choice.auto.trial ∙ c.loop-j.invariant.long;
}

pub returns : goal.returns
returns c = done c.loop-j.invariant.picking c.loop-j-test.false
