-- `sheet_refusal::field::ordered` meets its contract. Assumes nothing.
use Prim.Native.Nat.{◌+◌}
use Rattle.wire.specs.Bytes.{f64_at}
use Rattle.sheet.specs.Ranges.{interval}
use Rattle.sheet_refusal.proofs.Fields.{amount_number, passed}
use Rattle.sheet_refusal.proofs.field.ordered.Goals as goal

pub returns-then-not-amount : goal.returns-then-not-amount
unfolding interval
returns-then-not-amount c = rw (← c.amount.ensures, c.if-not-amount.true)

pub returns-then-not-amount-2 : goal.returns-then-not-amount-2
unfolding interval
returns-then-not-amount-2 c = rw (← c.amount.ensures, c.if-not-amount.false, ← c.amount-2.ensures, c.if-not-amount-2.true)

pub not_above-requires-clause-t : goal.not_above-requires-clause-t
not_above-requires-clause-t c = amount_number c.args.sheet.now c.args.at c.u64_at.result c.u64_at.ensures (passed c.amount.result _ c.amount.ensures (c.if-not-amount.false))

pub not_above-requires-clause-t_2 : goal.not_above-requires-clause-t_2
not_above-requires-clause-t_2 c = amount_number c.args.sheet.now (c.args.at + 8) c.u64_at-2.result c.u64_at-2.ensures (passed c.amount-2.result _ c.amount-2.ensures (c.if-not-amount-2.false))

pub returns : goal.returns
unfolding interval f64_at
returns c = rw (← c.amount.ensures, c.if-not-amount.false, ← c.amount-2.ensures, c.if-not-amount-2.false, c.not_above.ensures, c.u64_at.ensures, c.u64_at-2.ensures)
