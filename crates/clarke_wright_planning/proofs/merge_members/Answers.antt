-- `clarke_wright_planning::merge_members` meets its contract. Assumes nothing.
use Prim.Native.Nat.{ℕ}
use native.Mathlib.Omega.{arith}
use lib.ListN.{length-take}
use Rattle.clarke_wright_savings.specs.Laws.Ranked.{savings_few}
use Rattle.clarke_wright_planning.proofs.Merges.{ranked_legs, merged_routes}
use Rattle.clarke_wright_planning.proofs.merge_members.Goals as goal

pub returns-clause-lens_after : goal.returns-clause-lens_after
returns-clause-lens_after c = merged_routes c.args.sheet.now c.args.terms c.args.members.now c.rank.new.self.from.now c.rank.new.self.to.now c.rank.new.self.values.now c.rank.new.self.entries.now c.rank.new.self.count c.rank.ensures.listed c.rank.ensures.entries_after _ _ c.start-left.ensures.lens_after c.merge_all.ensures.lens_after

pub slice_bounds-merge_all-end : goal.slice_bounds-merge_all-end
slice_bounds-merge_all-end c = omega (arith, length-take {A = ℕ}, savings_few c.args.sheet.now c.args.terms c.args.members.now c.args.members.now, c.rank.ensures.count_after, c.rank.ensures.as_long.placed, c.requires.space.placed)

pub merge_all-requires : goal.merge_all-requires
merge_all-requires c =
    let r = c.rank in
    record {
      slotted = c.start-left.ensures.slotted;
      depot_bound = c.requires.routed.home;
      legs = ranked_legs c.args.sheet.now c.args.terms c.args.members.now r.new.self.from.now r.new.self.to.now r.new.self.values.now r.new.self.entries.now r.new.self.count r.ensures.listed r.ensures.entries_after c.args.terms.common.depot c.requires.routed;
    }
