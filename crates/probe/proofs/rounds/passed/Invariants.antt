-- `probe::rounds::passed` meets its contract. Assumes nothing.
use Rattle.std.specs.Slice.Iter.{chunks_exact_rest, chunks_exact_size}
use Rattle.probe.proofs.Counting.{Counted}
use Rattle.probe.proofs.rounds.passed.Given as goal

abbrev pub invariant-loop-round : goal.invariant-loop-round
invariant-loop-round l = Counted l.sheet l.depot l.limits l.len l.stops (chunks_exact_size l.round-iterator) (chunks_exact_rest l.round-iterator) l.count
