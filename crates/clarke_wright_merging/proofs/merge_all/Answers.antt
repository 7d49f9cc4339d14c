-- `clarke_wright_merging::merge_all` meets its contract. Assumes nothing.
use mathlib.Core.Path.{◌∙◌}
use Rattle.std.proofs.Common.{rules}
use Rattle.clarke_wright_merging.proofs.Merging.{goes_on, ends}
use Rattle.clarke_wright_merging.proofs.merge_all.Goals as goal

pub loop-entry-preserved : goal.loop-entry-preserved
loop-entry-preserved c =
    let i = c.loop-entry.invariant in
    let m = c.merge.ensures in
    let kept = m.count_kept ∙ i.counted in
    record {
      counted = kept;
      merging = goes_on i.merging c.loop-entry-test.true (rw kept at m.slotted_2) (rw (kept, i.counted) at m.lens_after);
      long = c.merge.auto.trial ∙ i.long;
      as_long = search rules;
      lent = search rules;
    }

pub returns-clause-lens_after : goal.returns-clause-lens_after
returns-clause-lens_after c = let i = c.loop-entry.invariant in rw i.counted (ends i.merging c.loop-entry-test.false)
