-- `clarke_wright_savings::Savings::push_from` meets its contract. Assumes nothing.
use Rattle.clarke_wright_savings.specs.Savings.{savings_from}
use Rattle.clarke_wright_savings.proofs.Gathering.{Gathering}
use Rattle.clarke_wright_savings.proofs.Savings.push_from.Given as goal

abbrev pub invariant-loop-other : goal.invariant-loop-other
invariant-loop-other l = Gathering (savings_from l.sheet l.terms l.start) l.members l.initial.from l.initial.to l.initial.values l.initial.entries l.initial.end l.from l.to l.values l.entries l.end l.other-index
