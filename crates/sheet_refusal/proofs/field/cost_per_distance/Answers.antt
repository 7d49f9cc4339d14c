-- `sheet_refusal::field::cost_per_distance` meets its contract. Assumes nothing.
use borrow.Author.Tests.{eq-eqb, ne_eqb}
use lib.Ieee.{binary64, of_bits}
use Rattle.wire.specs.Bytes.{f64_at}
use Rattle.numbers.specs.Laws.Range.{in_range_number, million, thousandth}
use Rattle.sheet.specs.Ranges.{cost_per_distance, zero_bits}
use Rattle.sheet_refusal.proofs.Fields.{passed}
use Rattle.sheet_refusal.proofs.field.cost_per_distance.Goals as goal

pub at_least-requires : goal.at_least-requires
at_least-requires c = in_range_number c.u64_at-bits.result (of_bits binary64 0x412E_8480_0000_0000) (passed c.in_range.result _ c.in_range.ensures c.if-in_range.true)

pub returns-then-bits-eq0 : goal.returns-then-bits-eq0
unfolding cost_per_distance zero_bits f64_at
returns-then-bits-eq0 c = rw (← c.u64_at-bits.ensures, ← million, ← c.in_range.ensures, c.if-in_range.true, eq-eqb _ _ c.if-bits-eq0.true)

pub returns-else-bits-eq0 : goal.returns-else-bits-eq0
unfolding cost_per_distance zero_bits f64_at
returns-else-bits-eq0 c = rw (← c.u64_at-bits.ensures, ← million, ← c.in_range.ensures, c.if-in_range.true, ne_eqb _ _ c.if-bits-eq0.false, c.at_least.ensures, thousandth)

pub returns-else-in_range : goal.returns-else-in_range
unfolding cost_per_distance zero_bits f64_at
returns-else-in_range c = rw (← c.u64_at-bits.ensures, ← million, ← c.in_range.ensures, c.if-in_range.false)
