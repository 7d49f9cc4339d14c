-- `solomon_text::lines::next_digit_line` meets its contract. Assumes nothing.
use mathlib.Core.Path.{◌≡◌}
use Prim.Native.Nat.{◌-◌, ◌≤◌}
use lib.ListN.{length, drop}
use Rattle.solomon_text.specs.Lines.{lines_of, digit_lines}
use Rattle.solomon_text.proofs.lines.next_digit_line.Given as goal

abbrev pub invariant-loop-start : goal.invariant-loop-start
invariant-loop-start l = (l.at ≤ l.start) × (l.start ≤ length l.text) × (digit_lines (lines_of (drop l.at l.text)) ≡ digit_lines (lines_of (drop l.start l.text)))

abbrev pub decreases-loop-start : goal.decreases-loop-start
decreases-loop-start l = length l.text - l.start
