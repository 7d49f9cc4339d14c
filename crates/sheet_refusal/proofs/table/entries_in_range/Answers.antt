-- `sheet_refusal::table::entries_in_range` meets its contract. Assumes nothing.
use Rattle.std.proofs.Common.{◌≡◌, refl, ℕ, ◌∙◌, ap, sym, arith}
use Rattle.numbers.specs.All.{all}
use Rattle.numbers.specs.Laws.All.{all_none}
use Rattle.sheet.specs.Fields.{entries_of, entry_at}
use Rattle.sheet.specs.Ranges.{amount, entries_in_range}
use Rattle.sheet_refusal.proofs.Signs.{one_more}
use Rattle.sheet_refusal.proofs.table.entries_in_range.Goals as goal

pub loop-k-init : goal.loop-k-init
loop-k-init c = sym (all_none (λ (k : ℕ). amount c.args.sheet.now (entry_at c.args.sheet.now k)))

pub loop-k-preserved : goal.loop-k-preserved
loop-k-preserved c = one_more c.args.sheet.now c.loop-k.k c.loop-k.signs c.u64_at-bits.result c.u64_at-bits.type_inv (rw (c.u64_at-bits.ensures, c.tables-base.ensures) refl) c.loop-k.invariant

pub returns : goal.returns
unfolding entries_in_range
returns c =
    let s = c.args.sheet.now in
    let n : c.entries-entries.result ≡ entries_of s = rw (c.entries-entries.ensures.0, c.rows.ensures, c.times.ensures) in
    let e : c.loop-k.k ≡ c.entries-entries.result = omega arith in
    c.loop-k.invariant ∙ ap (all (λ (k : ℕ). amount s (entry_at s k))) (e ∙ n)
