-- docs/SCOPE.md#several-depots. Document 01, "multi_depot.rs": "a stop turned down goes to its next nearest depot that has a vehicle; a depot whose members changed is planned afresh. Each depot is planned on its own rows alone [..]. Set-aside stops come out ascending."
use Rattle.std.specs.Prelude.{ℕ, zero, suc, ◌+◌, ◌*◌, Bool, true, false, not, ◌&&◌, ◌||◌, cond, List, [], ◌∷◌, ◌++◌, leb, ltb, eqb, get_or}
use Rattle.std.specs.Float.Ieee.{lt, eq}
use Rattle.lists.specs.Count.{is_in}
use Rattle.sheet.specs.Fields.{rows_of, method_of}
use Rattle.sheet.specs.Depots.{depots_of}
use Rattle.sheet.specs.Values.{distance_of}
use Rattle.sheet.specs.Fleet.{fleet_of}
use Rattle.sheet.specs.Stops.{stops_with, all_stops}
use Rattle.constructive.specs.Outcome.{Outcome, empty_outcome}
use Rattle.constructive.specs.Members.{members_of}
use Rattle.nearest_neighbor.specs.Nearest.{nearest_neighbor, nearest_neighbor_tw}
use Rattle.clarke_wright_savings.specs.Savings.{clarke_wright}
use Rattle.solomon_i1.specs.Insertion.{solomon_i1}
use Rattle.sweep.specs.Sweep.{sweep}

-- ---- depots
abbrev pub has_any : List ℕ → Bool
has_any [] = false
has_any (x ∷ xs) = true

-- "depot that has a vehicle"
unfoldable pub has_vehicle : List ℕ → ℕ → Bool
has_vehicle s depot = has_any (fleet_of s depot)

-- no depot is written as a number from the number of depots on
abbrev pub is_no_depot : List ℕ → ℕ → Bool
is_no_depot s d = leb (depots_of s) d

-- "nearest", by the leg from the depot to the stop; a tie goes to the lower depot
unfoldable pub sooner : List ℕ → ℕ → ℕ → ℕ → Bool
sooner s c d e = lt (distance_of s d c) (distance_of s e c) || (eq (distance_of s d c) (distance_of s e c) && ltb d e)

-- a depot that is asked after another; after none every one is
unfoldable pub asked_after : List ℕ → ℕ → ℕ → ℕ → Bool
asked_after s c after d = has_vehicle s d && (is_no_depot s after || sooner s c after d)

-- the nearest so far, and one depot more
abbrev pub nearer : List ℕ → ℕ → ℕ → ℕ → ℕ → ℕ
nearer s c after best d = cond (asked_after s c after d && (is_no_depot s best || sooner s c d best)) d best

-- of the n depots from d on
unfoldable pub nearest_from : List ℕ → ℕ → ℕ → ℕ → ℕ → ℕ → ℕ
nearest_from s c after zero d best = best
nearest_from s c after (suc n) d best = nearest_from s c after n (d + 1) (nearer s c after best d)

-- "its next nearest depot that has a vehicle", or none
unfoldable pub next_depot : List ℕ → ℕ → ℕ → ℕ
next_depot s c after = nearest_from s c after (depots_of s) 0 (depots_of s)

-- ---- one planning of every depot. `at` has, for each row, the depot whose member it is, or none; a depot's row is no depot's member.
-- savings, insertion or sweep, with one vehicle for all rounds: v is its index
unfoldable pub with_vehicle : List ℕ → ℕ → List ℕ → ℕ → Outcome
with_vehicle s d members v =
    cond (eqb (method_of s) 0) (clarke_wright s d v members)
    (cond (eqb (method_of s) 1) (solomon_i1 s d v members) (sweep s d v members))

-- "Savings, insertion and sweep use the depot's first vehicle for all rounds"; without one there is no round
abbrev pub with_first : List ℕ → ℕ → List ℕ → List ℕ → Outcome
with_first s d members [] = record { rounds = []; aside = members }
with_first s d members (v ∷ fleet) = with_vehicle s d members v

-- the constructor by the method's number
unfoldable pub construct_of : List ℕ → ℕ → List ℕ → List ℕ → Outcome
construct_of s d members fleet =
    cond (eqb (method_of s) 2) (nearest_neighbor s d members fleet)
    (cond (eqb (method_of s) 3) (nearest_neighbor_tw s d members fleet) (with_first s d members fleet))

abbrev pub outcomes_joined : Outcome → Outcome → Outcome
outcomes_joined o p = record { rounds = o.rounds ++ p.rounds; aside = o.aside ++ p.aside }

-- a depot with its members; without any it is not planned
unfoldable pub planned_of : List ℕ → ℕ → List ℕ → Outcome
planned_of s d [] = empty_outcome
planned_of s d (c ∷ cs) = construct_of s d (c ∷ cs) (fleet_of s d)

-- the first n depots, one after another
unfoldable pub planned_upto : List ℕ → List ℕ → ℕ → Outcome
planned_upto s at zero = empty_outcome
planned_upto s at (suc d) = outcomes_joined (planned_upto s at d) (planned_of s d (members_of s at d))

abbrev pub planned_at : List ℕ → List ℕ → Outcome
planned_at s at = planned_upto s at (depots_of s)

-- ---- the offers
-- the depot of a row at d after an offer: "a stop turned down goes to its next nearest depot"; where there is none it stays
unfoldable pub moves_to : List ℕ → Bool → ℕ → ℕ → ℕ
moves_to s turnedDown c d = let next = next_depot s c d in cond (turnedDown && not (is_no_depot s next)) next d

-- from row c on
unfoldable pub offered_from : List ℕ → List ℕ → ℕ → List ℕ → List ℕ
offered_from s aside c [] = []
offered_from s aside c (d ∷ at) = moves_to s (is_in c aside) c d ∷ offered_from s aside (c + 1) at

-- a round of offers
unfoldable pub after_offers : List ℕ → List ℕ → List ℕ
after_offers s at = offered_from s (planned_at s at).aside 0 at

-- whether a row has moved
unfoldable pub moved : List ℕ → List ℕ → Bool
moved [] after = false
moved (d ∷ at) [] = false
moved (d ∷ at) (e ∷ after) = not (eqb d e) || moved at after

-- offers until no stop moves, or n rounds of them
unfoldable pub settled_in : ℕ → List ℕ → List ℕ → List ℕ
settled_in zero s at = at
settled_in (suc n) s at =
    let next = after_offers s at in
    let rest = settled_in n s next in
    cond (moved at next) rest at

-- at first every row goes to its nearest depot that has a vehicle, from row c on
unfoldable pub first_from : List ℕ → ℕ → ℕ → List ℕ
first_from s zero c = []
first_from s (suc n) c = next_depot s c (depots_of s) ∷ first_from s n (c + 1)

unfoldable pub first_depots : List ℕ → List ℕ
first_depots s = first_from s (rows_of s) 0

-- a row is asked for by each depot once at most, so this many rounds of offers are enough: `settled`
unfoldable pub settled_at : List ℕ → List ℕ
settled_at s = settled_in (rows_of s * depots_of s) s (first_depots s)

-- ---- the outcome
-- "Set-aside stops come out ascending": those turned down, and no depot's
abbrev pub left_out : List ℕ → List ℕ → List ℕ → ℕ → Bool
left_out s at aside c = is_no_depot s (get_or at c 0) || is_in c aside

unfoldable pub gathered : List ℕ → List ℕ → Outcome
gathered s at =
    let o = planned_at s at in
    record { rounds = o.rounds; aside = stops_with s (left_out s at o.aside) }

unfoldable pub by_depot : List ℕ → Outcome
by_depot s = gathered s (settled_at s)

-- one depot: what its constructor makes of every stop, as it is
unfoldable pub outcome_of : List ℕ → Outcome
outcome_of s = cond (eqb (depots_of s) 1) (planned_of s 0 (all_stops s)) (by_depot s)
