-- `solomon_i1::growing::open_round` meets its contract. Assumes nothing.
use mathlib.Core.Path.{◌∙◌, ap}
use lib.ListN.{length}
use Rattle.solomon_i1.specs.Insertion.{Growth, route_in}
use Rattle.solomon_i1.specs.Tabled.{growth_stops}
use Rattle.solomon_i1.proofs.Grows.{opened, opens}
use Rattle.solomon_i1.proofs.growing.open_round.Goals as goal

pub grow_round-requires-clause-joinable : goal.grow_round-requires-clause-joinable
grow_round-requires-clause-joinable c = opens c.args.sheet.now c.args.terms c.args.left.now c.args.seed c.requires.seed_in_bounds.0 c.bring.new.stops c.bring.ensures c.requires.joinable

pub returns : goal.returns
returns c = let e = opened c.args.sheet.now c.args.terms c.args.left.now c.args.seed c.requires.seed_in_bounds.0 c.bring.new.stops c.bring.ensures in record {
  value = c.grow_round.ensures.value ∙ ap (λ (g : Growth). length (route_in g)) e;
  left_after = c.grow_round.ensures.left_after ∙ ap growth_stops e;
}
