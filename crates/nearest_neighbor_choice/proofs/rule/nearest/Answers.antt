-- `nearest_neighbor_choice::rule::nearest` meets its contract. Assumes nothing.
use Rattle.std.proofs.Common.{arith}
use Rattle.nearest_neighbor_choice.proofs.Judging.{goes_on, passes_to, ends}
use Rattle.nearest_neighbor_choice.proofs.Farther.{no_nearer}
use Rattle.nearest_neighbor_choice.proofs.rule.nearest.Goals as goal

pub loop-j-preserved : goal.loop-j-preserved
loop-j-preserved g c =
    let near = c.next_nearer-j.ensures in
    passes_to _ _ _ _ _ (goes_on _ _ _ _ c.loop-j.invariant _ c.loop-j-test.true c.nearer-best.ensures) near.bounds
    (λ i h k. no_nearer c.args.sheet.now c.args.partial _ c.requires.partial_route (c.requires.routed.row i (omega (arith, near.bounds.1, k))) c.args.depot (g.R.Rule.which c.args.rule) c.args.vehicle c.args.limits _ i (near.passed i h k))

pub returns : goal.returns
returns g c = ends _ _ _ _ c.loop-j.invariant c.loop-j-test.false
