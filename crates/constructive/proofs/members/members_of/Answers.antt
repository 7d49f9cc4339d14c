-- `constructive::members::members_of` meets its contract. Assumes nothing.
use Rattle.std.proofs.Common.{rules, arith}
use Rattle.constructive.specs.Members.{members_of}
use Rattle.constructive.proofs.members.members_of.Goals as goal

pub gather-requires : goal.gather-requires
unfolding members_of
gather-requires c κs within =
    let p = c.requires in
    (search rules, (omega (arith, p.gathers.rows, p.gathers.sheet.sized.rows), (search rules, (search rules, rw (c.depots.ensures.value, p.gathers.rows) p.depot_in_bounds))))
