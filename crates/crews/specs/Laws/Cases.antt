-- A deal computed, and deals that are wrong: one is not bounded, one is not shared; one that is not even stands in `OwnOrder`. Assumes nothing.
use Rattle.std.specs.Prelude.{◌≡◌, refl, [], ◌∷◌}
use Rattle.std.proofs.Common.{arith}
use Rattle.crews.specs.Deal.{total_of, longest_left, least_crew, dealt_next, dealt_on, dealt}
use Rattle.crews.specs.Fair.{longest, crews_sum, largest, Shared, Even, LargestBounded}
use Rattle.crews.specs.Laws.Totals.{total_none}

-- two 5s, 3, 7 and 4 to two crews: 7 to crew 1, both 5s to crew 2, 4 to crew 1, 3 to crew 2
pub two_crews : dealt 2 (5 ∷ 3 ∷ 7 ∷ 5 ∷ 4 ∷ []) ≡ 2 ∷ 2 ∷ 1 ∷ 2 ∷ 1 ∷ []
unfolding dealt dealt_on dealt_next longest_left least_crew total_of
two_crews = refl

-- rounds in turn, to crew 1, 2, 1: 8 twice is more than 9 and 4
pub in_turn_unbounded : LargestBounded 2 (4 ∷ 1 ∷ 4 ∷ []) (1 ∷ 2 ∷ 1 ∷ []) → ⊥
unfolding total_of largest crews_sum longest
in_turn_unbounded bounded = omega arith

-- nothing dealt: even, so bounded too, but not shared
pub none_dealt_even : Even 2 (4 ∷ 1 ∷ 4 ∷ []) (0 ∷ 0 ∷ 0 ∷ [])
none_dealt_even a b k l m n = omega (arith, total_none 3 a (4 ∷ 1 ∷ 4 ∷ []) k)

pub none_dealt_unshared : Shared 2 (4 ∷ 1 ∷ 4 ∷ []) (0 ∷ 0 ∷ 0 ∷ []) → ⊥
none_dealt_unshared shared = omega (arith, (shared.crew 0 (omega arith)).0)
