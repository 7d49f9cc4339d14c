-- `clarke_wright_savings::Savings::rank` meets its contract. Assumes nothing.
use mathlib.Core.Path.{sym, ◌∙◌}
use native.Mathlib.Omega.{arith}
use lib.Seq.{length-take-le}
use Rattle.std.proofs.Common.{rules}
use Rattle.clarke_wright_savings.proofs.Ranking.{listed, values_hold, entries_hold, numbers, placed, few, as_many, in_rank}
use Rattle.clarke_wright_savings.proofs.Savings.rank.Goals as goal

pub slice_bounds-sort_descending-end : goal.slice_bounds-sort_descending-end
slice_bounds-sort_descending-end c = let o = c.push_all in sym (length-take-le o.new.self.count o.new.self.values.now (values_hold _ _ _ o.ensures.count_after o.ensures.savings_pushed))

pub slice_bounds-sort_descending-end-2 : goal.slice_bounds-sort_descending-end-2
slice_bounds-sort_descending-end-2 c = let e = c.push_all.ensures in entries_hold _ _ _ e.count_after e.savings_pushed

pub slice_bounds-sort_descending-end-3 : goal.slice_bounds-sort_descending-end-3
slice_bounds-sort_descending-end-3 c = let o = c.push_all in sym (length-take-le o.new.self.count o.new.self.entries.now (entries_hold _ _ _ o.ensures.count_after o.ensures.savings_pushed))

pub sort_descending-requires : goal.sort_descending-requires
sort_descending-requires c = let o = c.push_all in record {
  numbers = (numbers _ _ _ o.ensures.count_after o.ensures.savings_pushed, placed _ _ _ o.ensures.count_after o.ensures.savings_pushed);
  entries_in_bounds = omega (arith, length-take-le o.new.self.count o.new.self.entries.now (entries_hold _ _ _ o.ensures.count_after o.ensures.savings_pushed), few _ _ _ o.ensures.count_after o.ensures.savings_pushed, c.requires.scratch_in_bounds);
}

pub returns : goal.returns
returns c = let o = c.push_all in
    let d = c.sort_descending in
    let e = o.ensures in
    let l = d.auto.entries ∙ length-take-le o.new.self.count o.new.self.entries.now (entries_hold _ _ _ e.count_after e.savings_pushed) in
    rw (← (c.new-own.ensures ∙ c.bytes.ensures.value))
    (record {
      count_after = e.count_after;
      listed = listed _ _ _ e.count_after e.savings_pushed;
      entries_after = in_rank _ _ _ e.count_after e.savings_pushed d.new.entries _ l d.ensures;
      as_long = let k = e.as_long in record { starts = k.starts; ends = k.ends; saved = k.saved; placed = as_many _ _ _ e.count_after e.savings_pushed d.new.entries l ∙ k.placed };
      lent = search rules;
    })
