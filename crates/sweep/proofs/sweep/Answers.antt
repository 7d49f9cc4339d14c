-- `sweep::sweep` meets its contract. Assumes nothing.
use mathlib.Core.Path.{refl}
use Rattle.std.proofs.Common.{rules}
use Rattle.sweep.proofs.Sorted.{sort_asks, order_members, packed, home_of}
use Rattle.sweep.proofs.sweep.Goals as goal

pub sort_by_angle-requires : goal.sort_by_angle-requires
sort_by_angle-requires c = let both = sort_asks c.args.sheet.now c.args.depot c.args.tables.now.stops.now c.args.filled.routed c.args.total c.requires.members in record { depot_bound = both.1.0; stops_in_bounds = both.1.1 }

pub pack-requires : goal.pack-requires
pack-requires c = record { members = rw (home_of c.args.sheet.now c.args.depot c.args.tables.now.stops.now c.args.filled.routed c.args.total c.requires.members c.args.vehicle _ c.terms_with-terms.ensures) (order_members c.args.sheet.now c.args.depot c.args.tables.now.stops.now c.args.filled.routed c.args.total c.requires.members _ c.sort_by_angle.ensures); room = c.requires.room }

pub returns : goal.returns
returns c = let both = packed c.args.sheet.now c.args.depot c.args.tables.now.stops.now c.args.filled.routed c.args.total c.requires.members _ c.sort_by_angle.ensures c.args.vehicle _ c.terms_with-terms.ensures c.args.tables.now.ends.now c.args.tables.now.vehicles.now _ _ _ c.args.filled _ refl (c.pack.ensures.value, c.pack.ensures.stored) in record { value = both.0; stored = both.1; lent = search rules }
