-- docs/SCOPE.md#a-lawful-round. Document 01: a pond "is later than a round if it stands on one counted higher, or is set aside and the seed's rule would take some stop of that round before it."
use Rattle.std.specs.Prelude.{ℕ, ◌<◌, Bool, ◌&&◌, ◌||◌, List, T, ltb, length}
use Rattle.std.specs.Float.Ieee.{lt, eq}
use Rattle.lists.specs.Count.{count}
use Rattle.sheet.specs.Values.{distance_of}
use Rattle.constructive.specs.Outcome.{Round, round_at}
use Rattle.insertion.specs.Lawful.{ClosedTo}

-- "the seed's rule" takes the farthest, the first of equals: row y before row x
unfoldable pub seeds_first : List ℕ → ℕ → ℕ → ℕ → Bool
seeds_first s depot y x = lt (distance_of s depot x) (distance_of s depot y) || (eq (distance_of s depot x) (distance_of s depot y) && ltb y x)

-- every round is closed to the stops of those counted higher
abbrev pub ClosedHigher : List ℕ → ℕ → List Round → Type 0
ClosedHigher s depot rounds = (i j row : ℕ) → i < j → j < length rounds → 0 < count row (round_at rounds j).stops → ClosedTo s depot (round_at rounds i) row

-- and to a stop set aside, if the seed's rule takes some stop of the round before it
abbrev pub ClosedAside : List ℕ → ℕ → List Round → List ℕ → Type 0
ClosedAside s depot rounds aside =
    (i row y : ℕ) → i < length rounds → 0 < count row aside → 0 < count y (round_at rounds i).stops → T (seeds_first s depot y row) → ClosedTo s depot (round_at rounds i) row
