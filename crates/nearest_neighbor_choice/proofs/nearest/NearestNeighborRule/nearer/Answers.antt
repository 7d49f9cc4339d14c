-- `nearest_neighbor_choice::nearest::NearestNeighborRule::nearer` meets its contract. Assumes nothing.
use mathlib.Core.Path.{sym, ◌∙◌}
use Rattle.sheet.specs.Values.{distance_of}
use Rattle.nearest_neighbor_choice.specs.Partial.{nearest_takes, nearest_by}
use Rattle.nearest_neighbor_choice.specs.Heuristic.{offer_by}
use Rattle.nearest_neighbor_choice.proofs.Judging.{loses, stays_out, is_taken}
use Rattle.nearest_neighbor_choice.proofs.nearest.NearestNeighborRule.nearer.Goals.{else-wins-via-else-wins, else-wins-via-then-wins+else-carries, else-wins-via-then-wins+then-carries+else-fits}
use Rattle.nearest_neighbor_choice.proofs.nearest.NearestNeighborRule.nearer.Goals as goal

pub returns-then-fits : goal.returns-then-fits
unfolding offer_by nearest_by
returns-then-fits c = is_taken c.args.best c.args.j (nearest_takes c.args.sheet.now c.args.depot c.args.vehicle c.args.limits c.args.partial c.args.row) (distance_of c.args.sheet.now c.args.partial.current c.args.row) c.distance-distance.result c.distance-distance.ensures (sym c.wins.ensures ∙ c.if-wins.true) (rw (← c.carries.ensures, c.if-carries.true, ← c.fits.ensures, c.if-fits.true))

pub returns : goal.returns
unfolding offer_by nearest_by
returns c =
    elim c.else-wins.branch [
      | else-wins-via-else-wins w ↦ loses c.args.best c.args.j (nearest_takes c.args.sheet.now c.args.depot c.args.vehicle c.args.limits c.args.partial c.args.row) (distance_of c.args.sheet.now c.args.partial.current c.args.row) c.distance-distance.result c.distance-distance.ensures (sym c.wins.ensures ∙ w.if-wins.false)
      | else-wins-via-then-wins+else-carries w ↦ stays_out c.args.best c.args.j (nearest_takes c.args.sheet.now c.args.depot c.args.vehicle c.args.limits c.args.partial c.args.row) (distance_of c.args.sheet.now c.args.partial.current c.args.row) (rw (← w.carries.ensures, w.if-carries.false))
      | else-wins-via-then-wins+then-carries+else-fits w ↦ stays_out c.args.best c.args.j (nearest_takes c.args.sheet.now c.args.depot c.args.vehicle c.args.limits c.args.partial c.args.row) (distance_of c.args.sheet.now c.args.partial.current c.args.row) (rw (← w.carries.ensures, w.if-carries.true, ← w.fits.ensures, w.if-fits.false))
    ]
