-- How long the plan's records are. Assumes nothing.
use Rattle.std.specs.Prelude.{◌≡◌, ℕ, length, Float}
use Rattle.std.proofs.Common.{length-append}
use Rattle.wire.specs.Laws.Bytes.{length_bytes}
use Rattle.evaluator.specs.declared.Progress.{Progress}
use Rattle.evaluator.specs.declared.Record.{Record}
use Rattle.plan.specs.Plan.{visit_bytes, aside_bytes, round_counts, round_figures, round_bytes, header_bytes}

pub visit_long : (next : ℕ) (p : Progress) → length (visit_bytes next p) ≡ 24
unfolding visit_bytes
visit_long next p = simp (length-append, length_bytes)

pub aside_long : (next : ℕ) → length (aside_bytes next) ≡ 2
unfolding aside_bytes
aside_long next = length_bytes 2 next

-- the two parts of a round's record, and the whole
pub counts_long : (id start : ℕ) (r : Record) → length (round_counts id start r) ≡ 16
unfolding round_counts
counts_long id start r = simp (length-append, length_bytes)

pub figures_long : (r : Record) → length (round_figures r) ≡ 40
unfolding round_figures
figures_long r = simp (length-append, length_bytes)

pub round_long : (id start : ℕ) (r : Record) → length (round_bytes id start r) ≡ 56
unfolding round_bytes
round_long id start r = simp (length-append, counts_long, figures_long)

pub header_long : (rounds aside rows : ℕ) (cost : Float) → length (header_bytes rounds aside rows cost) ≡ 16
unfolding header_bytes
header_long rounds aside rows cost = simp (length-append, length_bytes)
