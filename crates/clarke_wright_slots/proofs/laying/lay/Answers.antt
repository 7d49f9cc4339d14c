-- `clarke_wright_slots::laying::lay` meets its contract. Assumes nothing.
use native.Mathlib.Omega.{arith}
use Rattle.clarke_wright_slots.proofs.Rounds.{aside_room, with_aside, rounds_end}
use Rattle.clarke_wright_slots.proofs.laying.lay.Goals as goal

pub overflow_add-end : goal.overflow_add-end
overflow_add-end c = omega (arith, aside_room _ _ c.args.aside.now c.lay_slots-done.ensures.stored c.lay_slots-done.ensures.value c.requires.aside_in_bounds)

pub offset_bounds-stops-end : goal.offset_bounds-stops-end
offset_bounds-stops-end c = omega (arith, rounds_end _ _ c.args.aside.now c.lay_slots-done.ensures.stored c.lay_slots-done.ensures.value c.requires.aside_in_bounds, c.requires.laying.few)

pub slice_bounds-copy_from_slice-end : goal.slice_bounds-copy_from_slice-end
slice_bounds-copy_from_slice-end c = aside_room _ _ c.args.aside.now c.lay_slots-done.ensures.stored c.lay_slots-done.ensures.value c.requires.aside_in_bounds

pub returns-clause-stored : goal.returns-clause-stored
returns-clause-stored c = with_aside _ _ c.args.aside.now c.lay_slots-done.ensures.stored c.lay_slots-done.ensures.value c.requires.aside_in_bounds c.copy_from_slice.new.self c.copy_from_slice.ensures.after
