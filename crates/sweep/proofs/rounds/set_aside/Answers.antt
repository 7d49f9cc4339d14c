-- `sweep::rounds::set_aside` meets its contract. Assumes nothing.
use mathlib.Core.Path.{ap, ◌∙◌}
use Prim.Native.Nat.{ℕ}
use mathlib.Core.List.{List, ◌++◌}
use lib.ListN.{drop}
use Rattle.sweep.proofs.Parts.{sent_front}
use Rattle.sweep.proofs.rounds.set_aside.Goals as goal

pub returns : goal.returns
returns c = ap (λ (l : List ℕ). l ++ drop c.args.total c.args.stops.now) c.send_last.ensures ∙ sent_front c.args.stops.now c.args.total c.args.at c.requires.0 c.requires.1
