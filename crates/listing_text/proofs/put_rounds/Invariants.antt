-- `listing_text::put_rounds` meets its contract. Assumes nothing.
use mathlib.Core.Path.{◌≡◌}
use Prim.Native.Nat.{◌-◌}
use Rattle.plan.specs.Read.{rounds_at, aside_at, chain_of}
use Rattle.listing_text.proofs.Counting.{Counting}
use Rattle.listing_text.proofs.put_rounds.Given as goal

abbrev pub invariant-loop-k : goal.invariant-loop-k
invariant-loop-k l = (l.rounds ≡ rounds_at l.plan) × Counting l.sheet l.plan (rounds_at l.plan) (chain_of l.sheet l.plan (aside_at l.plan)) l.initial.text l.text l.k

abbrev pub decreases-loop-k : goal.decreases-loop-k
decreases-loop-k l = l.rounds - l.k
