-- What holds of every round that a constructor makes. Assumes nothing.
use Rattle.std.specs.Prelude.{◌≡◌, ℕ, ◌<◌, List, ◌∷◌, eqb}
use Rattle.std.proofs.Common.{ap, arith, eq-eqb}
use Rattle.lists.specs.Count.{one, count}
use Rattle.constructive.specs.Outcome.{Round}

-- its vehicle is one of the fleet
abbrev pub OfFleet : List ℕ → Round → Type 0
OfFleet fleet r = 0 < count r.vehicle fleet

-- a round of the fleet's first vehicle is the fleet's
pub of_first : (v : ℕ) (fleet : List ℕ) (r : Round) → r.vehicle ≡ v → OfFleet (v ∷ fleet) r
unfolding count
of_first v fleet r e = let here : one (eqb r.vehicle v) ≡ 1 = ap one (eq-eqb r.vehicle v e) in omega arith
