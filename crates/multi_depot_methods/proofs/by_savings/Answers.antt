-- `multi_depot_methods::by_savings` meets its contract. Assumes nothing.
use mathlib.Core.Path.{sym}
use native.Mathlib.Omega.{arith}
use Rattle.multi_depot_methods.proofs.Fleets.{savings_so, first_known, none_so, with_some}
use Rattle.std.proofs.Common.{rules}
use Rattle.multi_depot_methods.proofs.by_savings.Goals as goal

pub returns-then-fleet_of-eq0 : goal.returns-then-fleet_of-eq0
returns-then-fleet_of-eq0 c = let p = c.requires in
    let g = c.fleet_of.ensures in
    let both = none_so p.ready g.value g.fleet_after (sym p.sheet_value) (λ q. omega arith) (λ q. omega arith) c.if-fleet_of-eq0.true in record { value = both.0; stored = both.1; lent = search rules }

pub clarke_wright_savings-requires : goal.clarke_wright_savings-requires
clarke_wright_savings-requires c = let p = c.requires in
    let g = c.fleet_of.ensures in
    record { members = p.ready.members; room = p.ready.room; vehicle_bound = first_known p.ready g.value g.fleet_after c.if-fleet_of-eq0.false; by_index = p.ready.once }

pub returns : goal.returns
returns c = let p = c.requires in
    let g = c.fleet_of.ensures in
    rw (with_some p.ready g.value g.fleet_after (sym p.sheet_value) (λ q. omega arith) (λ q. omega arith) c.if-fleet_of-eq0.false, savings_so _ _ _ _ p.sheet_value) record { value = c.clarke_wright_savings.ensures.value; stored = c.clarke_wright_savings.ensures.stored; lent = search rules }
