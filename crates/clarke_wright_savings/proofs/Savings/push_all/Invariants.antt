-- `clarke_wright_savings::Savings::push_all` meets its contract. Assumes nothing.
use Rattle.clarke_wright_savings.specs.Savings.{savings_of}
use Rattle.clarke_wright_savings.specs.Listed.{SavingsAsLong}
use Rattle.clarke_wright_savings.specs.Lent.{SavingsLent}
use Rattle.clarke_wright_savings.proofs.Gathering.{Gathering}
use Rattle.clarke_wright_savings.proofs.Savings.push_all.Given as goal

abbrev pub invariant-loop-start : goal.invariant-loop-start
invariant-loop-start l = record {
  as_long : SavingsAsLong l.initial.self.from.now l.initial.self.to.now l.initial.self.values.now l.initial.self.entries.now l.self.from.now l.self.to.now l.self.values.now l.self.entries.now;
  lent : SavingsLent l.initial.self l.self;
  gathering : Gathering (savings_of l.sheet l.terms l.members) l.members l.initial.self.from.now l.initial.self.to.now l.initial.self.values.now l.initial.self.entries.now 0 l.self.from.now l.self.to.now l.self.values.now l.self.entries.now l.self.count l.start-index;
}
