-- `multi_depot_offers::members::lay_aside` meets its contract. Assumes nothing.
use Rattle.std.proofs.Common.{rules, arith}
use Rattle.multi_depot_offers.specs.Promises.{aside_by_marks}
use Rattle.multi_depot_offers.proofs.members.lay_aside.Goals as goal

pub gather-requires : goal.gather-requires
unfolding aside_by_marks
gather-requires c κs within =
    let p = c.requires in
    (search rules, (omega (arith, p.gathers.rows, p.gathers.sheet.sized.rows), (search rules, (search rules, rw (c.depots-depots.ensures.value, p.gathers.rows) p.marks_in_bounds))))
