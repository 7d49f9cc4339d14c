-- `multi_depot_planning::lay_depot` meets its contract. Assumes nothing.
use Rattle.multi_depot_planning.proofs.Sharing.{none_shared, ready, shares}
use Rattle.multi_depot_planning.proofs.lay_depot.Goals as goal

pub returns-then-total-from-clause-depot_laid : goal.returns-then-total-from-clause-depot_laid
returns-then-total-from-clause-depot_laid c = let p = c.requires in
    let m = c.members_of-total.ensures in
    none_shared p.planning_tables p.next m.value m.stops_after c.if-total-from.true

pub by_savings-saved-requires : goal.by_savings-saved-requires
by_savings-saved-requires c = let p = c.requires in
    let m = c.members_of-total.ensures in
    record { ready = ready p.planning_tables p.next m.value m.stops_after c.if-total-from.false; sheet_value = rw (← c.bytes.ensures.value) (c.saves_many.ensures.sheet_value c.if-saves_many.true) }

pub returns-then-saves_many-clause-depot_laid : goal.returns-then-saves_many-clause-depot_laid
returns-then-saves_many-clause-depot_laid c = let p = c.requires in
    let m = c.members_of-total.ensures in
    let d = c.by_savings-saved.ensures in
    shares p.planning_tables p.next m.value m.stops_after c.if-total-from.false d.value d.stored

pub construct-done-requires : goal.construct-done-requires
construct-done-requires c = let p = c.requires in
    let m = c.members_of-total.ensures in
    record { ready = ready p.planning_tables p.next m.value m.stops_after c.if-total-from.false; routed_bound = λ q. c.saves_many.ensures.members_bound c.if-saves_many.false (rw c.bytes.ensures.value q) }

pub returns-clause-depot_laid : goal.returns-clause-depot_laid
returns-clause-depot_laid c = let p = c.requires in
    let m = c.members_of-total.ensures in
    let d = c.construct-done.ensures in
    shares p.planning_tables p.next m.value m.stops_after c.if-total-from.false d.value d.stored
