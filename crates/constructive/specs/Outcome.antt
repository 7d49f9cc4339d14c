-- What a constructor makes: rounds in order, each with its vehicle and its stops, and the stops set aside, in order.
use Rattle.std.specs.Prelude.{ℕ, zero, suc, ◌+◌, ◌-◌, List, [], ◌∷◌, ◌++◌, get_or, take, drop}

-- a round: the vehicle's index in the sheet, and rows
pub record Round : Type 0 where
  pub vehicle : ℕ
  pub stops : List ℕ

pub record Outcome : Type 0 where
  pub rounds : List Round
  pub aside : List ℕ

abbrev pub empty_outcome : Outcome
empty_outcome = record { rounds = []; aside = [] }

-- The tables that an outcome is written in: the rounds' stops one after another, then those set aside; where each round ends; its vehicle.
-- the n rounds from the k-th on, the first of which starts at `start`
unfoldable pub rounds_in : List ℕ → List ℕ → List ℕ → ℕ → ℕ → ℕ → List Round
rounds_in stops ends vehicles zero start k = []
rounds_in stops ends vehicles (suc n) start k =
    record { vehicle = get_or vehicles k 0; stops = take (get_or ends k 0 - start) (drop start stops) }
    ∷ rounds_in stops ends vehicles n (get_or ends k 0) (k + 1)

-- where the k-th round starts: where the one before it ends
abbrev pub start_in : List ℕ → ℕ → ℕ
start_in ends zero = 0
start_in ends (suc k) = get_or ends k 0

-- n rounds of `total` stops
unfoldable pub outcome_in : List ℕ → List ℕ → List ℕ → ℕ → ℕ → Outcome
outcome_in stops ends vehicles n total = record {
  rounds = rounds_in stops ends vehicles n 0 0;
  aside = take (total - start_in ends n) (drop (start_in ends n) stops);
}

-- "all chains": those of the rounds, then the set-aside chain
unfoldable pub chains : List Round → List ℕ → List ℕ
chains [] aside = aside
chains (r ∷ rs) aside = r.stops ++ chains rs aside

abbrev pub stops_of : Outcome → List ℕ
stops_of o = chains o.rounds o.aside

-- the rounds, counted from 0
abbrev pub round_at : List Round → ℕ → Round
round_at rounds i = get_or rounds i (record { vehicle = 0; stops = [] })
