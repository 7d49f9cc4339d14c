-- docs/SCOPE.md#rounds-dealt-to-crews. Request Seven: "The longest round not yet dealt goes to the crew with the least total so far, lower round and lower crew first when equal."
-- Rounds are given by their durations in whole units. A deal has the crew of each round, "crews from 1"; 0 is a round not yet dealt.
use Rattle.std.specs.Prelude.{ℕ, zero, suc, ◌+◌, min, Bool, false, not, ◌&&◌, ◌||◌, cond, List, [], ◌∷◌, leb, ltb, eqb, length, get_or, set, replicate}

-- ---- a deal, the durations, and what they give a crew
-- its total
unfoldable pub total_of : List ℕ → List ℕ → ℕ → ℕ
total_of [] ds c = 0
total_of (a ∷ deal) [] c = 0
total_of (a ∷ deal) (d ∷ ds) c = cond (eqb a c) d 0 + total_of deal ds c

unfoldable pub has_round : List ℕ → List ℕ → ℕ → Bool
has_round [] ds c = false
has_round (a ∷ deal) [] c = false
has_round (a ∷ deal) (d ∷ ds) c = eqb a c || has_round deal ds c

-- "its own shortest round (0 if it has none)"
unfoldable pub shortest_of : List ℕ → List ℕ → ℕ → ℕ
shortest_of [] ds c = 0
shortest_of (a ∷ deal) [] c = 0
shortest_of (a ∷ deal) (d ∷ ds) c = cond (eqb a c) (cond (has_round deal ds c) (min d (shortest_of deal ds c)) d) (shortest_of deal ds c)

-- ---- the next round and its crew
-- round i goes before round k: it is not yet dealt, and k is dealt or shorter
abbrev pub goes_before : List ℕ → List ℕ → ℕ → ℕ → Bool
goes_before deal ds i k = eqb (get_or deal i 0) 0 && (not (eqb (get_or deal k 0) 0) || ltb (get_or ds k 0) (get_or ds i 0))

-- "The longest round not yet dealt (..) lower round (..) first when equal", of the first n
unfoldable pub longest_left : List ℕ → List ℕ → ℕ → ℕ
longest_left deal ds zero = 0
longest_left deal ds (suc n) = cond (goes_before deal ds n (longest_left deal ds n)) n (longest_left deal ds n)

-- "the crew with the least total so far (..) lower crew first when equal", of the crews 1 to w with these totals
unfoldable pub least_crew : (ℕ → ℕ) → ℕ → ℕ
least_crew t zero = 1
least_crew t (suc w) = cond (ltb (t (suc w)) (t (least_crew t w))) (suc w) (least_crew t w)

-- ---- the deal
unfoldable pub dealt_next : ℕ → List ℕ → List ℕ → List ℕ
dealt_next w ds deal = set deal (longest_left deal ds (length ds)) (least_crew (total_of deal ds) w)

-- n rounds more
unfoldable pub dealt_on : ℕ → List ℕ → ℕ → List ℕ → List ℕ
dealt_on w ds zero deal = deal
dealt_on w ds (suc n) deal = dealt_on w ds n (dealt_next w ds deal)

-- of all rounds, to w crews
unfoldable pub dealt : ℕ → List ℕ → List ℕ
dealt w ds = dealt_on w ds (length ds) (replicate (length ds) 0)

-- 14: "a crew count of 0 or above 8"
unfoldable pub crews_right : ℕ → Bool
crews_right w = leb 1 w && leb w 8
