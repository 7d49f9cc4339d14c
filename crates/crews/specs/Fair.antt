-- docs/SCOPE.md#rounds-dealt-to-crews. Request Seven: what has to be so of a deal of rounds with these durations, however it was made.
use Rattle.std.specs.Prelude.{◌≡◌, ℕ, zero, suc, ◌+◌, ◌-◌, ◌*◌, ◌≤◌, ◌<◌, max, List, [], ◌∷◌, length, get_or}
use Rattle.crews.specs.Deal.{total_of, shortest_of}

unfoldable pub longest : List ℕ → ℕ
longest [] = 0
longest (d ∷ ds) = max d (longest ds)

-- over the crews 1 to w
unfoldable pub crews_sum : (ℕ → ℕ) → ℕ → ℕ
crews_sum t zero = 0
crews_sum t (suc w) = crews_sum t w + t (suc w)

unfoldable pub largest : (ℕ → ℕ) → ℕ → ℕ
largest t zero = 0
largest t (suc w) = max (largest t w) (t (suc w))

-- each round has a crew, of the crews 1 to w
pub record Shared (w : ℕ) (ds deal : List ℕ) : Type 0 where
  pub long : length deal ≡ length ds
  pub crew : (i : ℕ) → i < length ds → (1 ≤ get_or deal i 0) × (get_or deal i 0 ≤ w)

-- "no crew's total exceeds another's by more than its own shortest round (0 if it has none)"
abbrev pub Even : ℕ → List ℕ → List ℕ → Type 0
Even w ds deal = (a b : ℕ) → 1 ≤ a → a ≤ w → 1 ≤ b → b ≤ w → total_of deal ds a ≤ total_of deal ds b + shortest_of deal ds a

-- "the largest total times the number of crews is at most the sum over the crews plus the longest round (0 if none) times one crew fewer"
abbrev pub LargestBounded : ℕ → List ℕ → List ℕ → Type 0
LargestBounded w ds deal = largest (total_of deal ds) w * w ≤ crews_sum (total_of deal ds) w + longest ds * (w - 1)
