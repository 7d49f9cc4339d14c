-- What insertion finds once of a round for all stops that may join it.
use Rattle.std.specs.Prelude.{ℕ, List}
use Rattle.constructive.specs.Load.{load_of}
use Rattle.constructive.specs.declared.terms.Terms.{Terms}
use Rattle.insertion.specs.Trial.{soft_cost}
use Rattle.solomon_i1_judging.specs.declared.Figures.{Figures}

-- a round's load and cost, found once for all stops
abbrev pub figures_of : List ℕ → Terms → List ℕ → Figures
figures_of s t route = record { load = load_of s route; cost = soft_cost s t route }
