-- `clarke_wright_planning::plan_by` meets its contract. Assumes nothing.
use mathlib.Core.Path.{sym, subst}
use native.Mathlib.Omega.{arith}
use Rattle.evaluation.specs.Routed.{Routed}
use Rattle.constructive.specs.Terms.{terms_of}
use Rattle.constructive.specs.Members.{part}
use Rattle.clarke_wright_savings.specs.declared.terms.Directed.{Directed}
use Rattle.clarke_wright_savings.specs.Savings.{directed_of}
use Rattle.clarke_wright_planning.proofs.Planned.{members_long, laying, aside_fits, planned_count, planned_laid}
use Rattle.clarke_wright_planning.proofs.plan_by.Goals as goal

pub returns-clause-value : goal.returns-clause-value
returns-clause-value c = planned_count c.requires.members c.requires.room c.directed_of-terms.result c.merge_members-aside.ensures.slotted c.merge_members-aside.ensures.lens_after c.merge_members-aside.ensures.value c.args.vehicle c.directed_of-terms.ensures c.lay.ensures.value

pub returns-clause-stored : goal.returns-clause-stored
returns-clause-stored c = planned_laid c.requires.members c.requires.room c.directed_of-terms.result c.merge_members-aside.ensures.slotted c.merge_members-aside.ensures.lens_after c.merge_members-aside.ensures.value c.args.vehicle c.directed_of-terms.ensures c.lay.ensures.stored

pub merge_members-aside-requires : goal.merge_members-aside-requires
unfolding directed_of terms_of
merge_members-aside-requires c = record {
  routed = subst (λ (t : Directed). Routed c.args.sheet.now t.common.depot (part c.args.tables.now.stops.now c.args.filled.routed c.args.total)) (sym c.directed_of-terms.ensures) c.requires.members.routed;
  by_index = c.requires.by_index;
  space = rw (members_long c.requires.members) c.requires.space;
  roomy = rw (members_long c.requires.members) c.requires.roomy;
  most_rows_in_bounds = omega arith;
}

pub lay-requires : goal.lay-requires
lay-requires c = record {
  laying = laying c.requires.members c.requires.room c.directed_of-terms.result c.merge_members-aside.ensures.slotted c.merge_members-aside.ensures.lens_after;
  aside_in_bounds = aside_fits c.requires.members c.requires.room c.directed_of-terms.result c.merge_members-aside.ensures.slotted c.merge_members-aside.ensures.lens_after c.merge_members-aside.ensures.value;
}
