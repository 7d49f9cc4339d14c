-- `clarke_wright_merging::merge` meets its contract. Assumes nothing.
use mathlib.Core.Path.{sym, ap, ◌∙◌}
use native.Mathlib.Omega.{arith}
use Rattle.clarke_wright_savings.specs.Savings.{after_merge}
use Rattle.clarke_wright_slots.specs.Slots.{slots_in}
use Rattle.clarke_wright_merging.proofs.Merging.{same_slot, none_from, none_to, two_fit, load_sum, too_much, both_some, ways, merges}
use Rattle.clarke_wright_merging.proofs.merge.Goals as goal
use Rattle.clarke_wright_merging.proofs.merge.Goals.{then-a-b-via-then-a-b, then-a-b-via-else-a-b+then-a-slots, then-a-b-via-else-a-b+else-a-slots+then-b-slots, then-a-b-via-else-a-b+else-a-slots+else-b-slots+then-terms-slots}

pub bounds-slots-a : goal.bounds-slots-a
bounds-slots-a c = let f = two_fit c.requires.slotted c.args.terms c.requires.i_bound c.if-a-b.false c.if-a-slots.false c.if-b-slots.false in omega (arith, f)

pub bounds-slots-b : goal.bounds-slots-b
bounds-slots-b c = let f = two_fit c.requires.slotted c.args.terms c.requires.i_bound c.if-a-b.false c.if-a-slots.false c.if-b-slots.false in omega (arith, f)

pub overflow_add-slots : goal.overflow_add-slots
overflow_add-slots c = omega (arith, load_sum c.requires.slotted c.args.terms c.requires.i_bound c.if-a-b.false c.if-a-slots.false c.if-b-slots.false)

pub returns-then-a-b-clause-lens_after : goal.returns-then-a-b-clause-lens_after
returns-then-a-b-clause-lens_after c =
    let p = c.requires in
    let a = c.args in
    elim c.then-a-b.branch [
      | then-a-b-via-then-a-b w ↦ same_slot p.slotted a.terms p.i_bound w.if-a-b.true
      | then-a-b-via-else-a-b+then-a-slots w ↦ none_from p.slotted a.terms p.i_bound w.if-a-slots.true
      | then-a-b-via-else-a-b+else-a-slots+then-b-slots w ↦ none_to p.slotted a.terms p.i_bound w.if-b-slots.true
      | then-a-b-via-else-a-b+else-a-slots+else-b-slots+then-terms-slots w ↦ too_much p.slotted a.terms p.i_bound w.if-a-b.false w.if-a-slots.false w.if-b-slots.false w.if-terms-slots.true
    ]

pub route-ri-requires : goal.route-ri-requires
route-ri-requires c = let f = two_fit c.requires.slotted c.args.terms c.requires.i_bound c.if-a-b.false c.if-a-slots.false c.if-b-slots.false in record { celled = (f.into_in, f.into_celled); measured = omega (arith, f.into_in, f.measured); long = f.into_long }

pub route-rj-requires : goal.route-rj-requires
route-rj-requires c = let f = two_fit c.requires.slotted c.args.terms c.requires.i_bound c.if-a-b.false c.if-a-slots.false c.if-b-slots.false in record { celled = (f.from_in, f.from_celled); measured = omega (arith, f.from_in, f.measured); long = f.from_long }

pub way_between-way-requires : goal.way_between-way-requires
way_between-way-requires c = both_some c.requires.slotted c.args.terms c.requires.i_bound c.if-a-b.false c.if-a-slots.false c.if-b-slots.false c.route-ri.ensures c.route-rj.ensures

pub merge_by-requires : goal.merge_by-requires
merge_by-requires c = record {
  slotted = c.requires.slotted;
  depot_bound = c.requires.depot_bound;
  way_slots = ways c.requires.slotted c.args.terms c.requires.i_bound c.if-a-b.false c.if-a-slots.false c.if-b-slots.false c.route-ri.ensures c.route-rj.ensures c.way_between-way.ensures;
  most_rows_in_bounds = c.requires.most_rows_in_bounds;
}

pub returns-clause-lens_after : goal.returns-clause-lens_after
returns-clause-lens_after c = c.merge_by.ensures.lens_after ∙ ap (after_merge (slots_in c.args.slots.now.count c.args.slots.now.cells.now c.args.slots.now.lens.now)) (sym (merges c.requires.slotted c.args.terms c.requires.i_bound c.if-a-b.false c.if-a-slots.false c.if-b-slots.false c.route-ri.ensures c.route-rj.ensures c.way_between-way.ensures c.if-terms-slots.false))
