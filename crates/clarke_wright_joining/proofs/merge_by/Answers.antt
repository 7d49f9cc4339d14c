-- `clarke_wright_joining::merge_by` meets its contract. Assumes nothing.
use native.Mathlib.Omega.{arith}
use Rattle.std.proofs.Common.{rules}
use Rattle.clarke_wright_slots.proofs.Taking.{taken_long}
use Rattle.clarke_wright_joining.proofs.Joining.{fitting, few_stops, all_routed, takes_over, not_passed, taken}
use Rattle.clarke_wright_joining.proofs.merge_by.Goals as goal

pub route-ri-requires : goal.route-ri-requires
route-ri-requires c = let f = fitting c.requires.slotted c.requires.way_slots c.in-Some.is in record { celled = (f.into_in, f.into_celled); measured = omega (arith, f.into_in, f.measured); long = f.into_long }

pub route-rj-requires : goal.route-rj-requires
route-rj-requires c = let f = fitting c.requires.slotted c.requires.way_slots c.in-Some.is in record { celled = (f.from_in, f.from_celled); measured = omega (arith, f.from_in, f.measured); long = f.from_long }

pub join-n-requires : goal.join-n-requires
join-n-requires c = omega (arith, few_stops c.requires.slotted c.requires.way_slots c.in-Some.is c.route-ri.ensures c.route-rj.ensures, c.requires.most_rows_in_bounds)

pub is_passed-requires : goal.is_passed-requires
is_passed-requires c =
    let all = all_routed c.requires.slotted c.requires.way_slots c.in-Some.is c.route-ri.ensures c.route-rj.ensures c.args.terms c.requires.depot_bound c.join-n.ensures.trial_after in
    record { routed = all.0; routed_2 = all.1.0; routed_3 = all.1.1 }

pub returns-then-not-is_passed-clause-lens_after : goal.returns-then-not-is_passed-clause-lens_after
returns-then-not-is_passed-clause-lens_after c =
    not_passed c.requires.slotted c.requires.way_slots c.in-Some.is c.route-ri.ensures c.route-rj.ensures c.args.terms c.requires.depot_bound c.join-n.ensures.trial_after c.is_passed.ensures c.if-not-is_passed.true

pub take_over-requires : goal.take_over-requires
take_over-requires c =
    let asked = takes_over c.requires.slotted c.requires.way_slots c.in-Some.is c.route-ri.ensures c.route-rj.ensures c.args.terms c.requires.depot_bound c.join-n.ensures.trial_after in
    record { roomy = asked.0; roomy_2 = asked.1.0; stops_len_bound = asked.1.1.0; from_bound = asked.1.1.1.0; by_index = asked.1.1.1.1.0; from_bound_2 = asked.1.1.1.1.1 }

pub returns : goal.returns
returns c =
    let both = taken c.requires.slotted c.requires.way_slots c.in-Some.is c.route-ri.ensures c.route-rj.ensures c.args.terms c.requires.depot_bound c.join-n.ensures.trial_after c.is_passed.ensures c.if-not-is_passed.false c.take_over.ensures.slots_len c.take_over.ensures.slot_taken in
    let room = takes_over c.requires.slotted c.requires.way_slots c.in-Some.is c.route-ri.ensures c.route-rj.ensures c.args.terms c.requires.depot_bound c.join-n.ensures.trial_after in
    let kept = c.take_over.ensures.count_kept in
    record { count_kept = kept; slotted_2 = rw kept both.0; lens_after = rw kept both.1; lent = search rules; as_long = taken_long room.0 room.1.1.0 c.take_over.ensures.slots_len c.take_over.ensures.slot_taken }
