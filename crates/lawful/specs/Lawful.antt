-- docs/SCOPE.md#a-lawful-round. Document 01, "A lawful round": read from the bytes of the sheet alone, over natural numbers. No label and no sum of floats stands here.
use Rattle.std.specs.Prelude.{ℕ, zero, suc, ◌+◌, ◌-◌, ◌*◌, Bool, true, false, ◌&&◌, ◌||◌, cond, List, [], ◌∷◌, ◌++◌, leb, ltb, eqb, length, take, drop, Float}
use Rattle.std.specs.Float.{nan, inf, fin}
use Rattle.std.specs.Float.Ieee.{up, down}
use Rattle.wire.specs.Bytes.{u32_at, f64_at}
use Rattle.sheet.specs.Fields.{row_at, row_marks, service_at, ready_at, due_at, vehicle_at, depot_field, vehicle_marks, max_distance_at, max_duration_at, earliest_at, latest_at, rest_at, marked}
use Rattle.sheet.specs.Values.{demand_of, distance_of, time_of}
use Rattle.lawful.specs.Whole.{nat_of}

abbrev nat_at : List ℕ → ℕ → ℕ
nat_at s at = nat_of (f64_at s at)

abbrev pub later : ℕ → ℕ → ℕ
later a b = cond (ltb a b) b a

-- the time and the distance of a leg
abbrev pub time_n : List ℕ → ℕ → ℕ → ℕ
time_n s i j = nat_of (time_of s i j)

abbrev pub distance_n : List ℕ → ℕ → ℕ → ℕ
distance_n s i j = nat_of (distance_of s i j)

-- a row's window and service; an unmarked window's ready is 0
abbrev pub is_windowed : List ℕ → ℕ → Bool
is_windowed s i = marked 2 (row_marks s (row_at i))

abbrev pub ready_n : List ℕ → ℕ → ℕ
ready_n s i = nat_at s (ready_at (row_at i))

abbrev pub due_n : List ℕ → ℕ → ℕ
due_n s i = nat_at s (due_at (row_at i))

abbrev pub service_n : List ℕ → ℕ → ℕ
service_n s i = nat_at s (service_at (row_at i))

-- a vehicle's depot, marks, rest and capacity
abbrev pub home_of : List ℕ → ℕ → ℕ
home_of s v = depot_field s (vehicle_at s v)

abbrev pub rests : List ℕ → ℕ → Bool
rests s v = marked 4 (vehicle_marks s (vehicle_at s v))

abbrev pub earliest_n : List ℕ → ℕ → ℕ
earliest_n s v = nat_at s (earliest_at (vehicle_at s v))

abbrev pub latest_n : List ℕ → ℕ → ℕ
latest_n s v = nat_at s (latest_at (vehicle_at s v))

abbrev pub rest_n : List ℕ → ℕ → ℕ
rest_n s v = nat_at s (rest_at (vehicle_at s v))

abbrev pub capacity_n : List ℕ → ℕ → ℕ
capacity_n s v = u32_at s (vehicle_at s v + 8)

-- ---- "A walk is given a vehicle, stops in order, and a place for the rest or none."
-- the last departure, or that the walk has failed
pub data Walk : Type 0 where
  failed : Walk
  left : ℕ → Walk

-- "it starts at the later of arrival and earliest, and its end then counts as arrival; a start after latest fails"
abbrev pub rest_begun : ℕ → ℕ → ℕ → Walk
rest_begun latest start rest = cond (ltb latest start) failed (left (start + rest))

abbrev pub rested : List ℕ → ℕ → ℕ → Walk
rested s v at = rest_begun (latest_n s v) (later at (earliest_n s v)) (rest_n s v)

-- "If the rest stands before this stop"
abbrev pub arrives : Bool → List ℕ → ℕ → ℕ → Walk
arrives true s v at = rested s v at
arrives false s v at = left at

-- "Arrival after a window's due fails. Departure is the later of arrival and ready, plus service."
abbrev pub departs : List ℕ → ℕ → Walk → Walk
departs s i failed = failed
departs s i (left at) = cond (is_windowed s i && ltb (due_n s i) at) failed (left (later at (ready_n s i) + service_n s i))

-- "Arrival is the last departure plus the time of the leg."
unfoldable pub stop_n : Bool → List ℕ → ℕ → ℕ → ℕ → Walk → Walk
stop_n here s v prev i failed = failed
stop_n here s v prev i (left time) = departs s i (arrives here s v (time + time_n s prev i))

-- "Duration is the last departure plus the time home"
abbrev pub home_n : List ℕ → ℕ → ℕ → Walk → Walk
home_n s v prev failed = failed
home_n s v prev (left time) = left (time + time_n s prev (home_of s v))

-- the walk over the stops left from row `prev` on, with the rest before the stop at `place`, counted from 1; 0 is no rest, or one that is past
unfoldable pub walk_n : List ℕ → ℕ → ℕ → Walk → ℕ → List ℕ → Walk
walk_n s v place w prev [] = home_n s v prev w
walk_n s v place w prev (i ∷ is) = walk_n s v (place - 1) (stop_n (eqb place 1) s v prev i w) i is

-- "It leaves the vehicle's depot at 0": the duration, or that the walk fails
abbrev pub duration_n : List ℕ → ℕ → ℕ → List ℕ → Walk
duration_n s v place is = walk_n s v place (left 0) (home_of s v) is

-- "distance the sum of all legs"
unfoldable pub travel_n : List ℕ → ℕ → ℕ → List ℕ → ℕ
travel_n s v prev [] = distance_n s prev (home_of s v)
travel_n s v prev (i ∷ is) = distance_n s prev i + travel_n s v i is

-- a natural number is at most an f64, exactly, whatever fraction the f64 has; no maximum of an accepted sheet is of another kind
abbrev pub not_over : ℕ → Float → Bool
not_over n nan = false
not_over n (inf s) = false
not_over n (fin true m e) = false
not_over n (fin false m e) = leb (n * down e) (m * up e)

-- "Over a marked maximum fails."
abbrev pub within_maximum : ℕ → List ℕ → ℕ → ℕ → ℕ → Bool
within_maximum mark s v field n = cond (marked mark (vehicle_marks s (vehicle_at s v))) (not_over n (f64_at s field)) true

-- "a lawful schedule means home in time": by the due of the vehicle's depot, where its row has a window
abbrev pub home_in_time : List ℕ → ℕ → ℕ → Bool
home_in_time s v duration = cond (is_windowed s (home_of s v)) (leb duration (due_n s (home_of s v))) true

abbrev pub keeps_maxima : List ℕ → ℕ → List ℕ → Walk → Bool
keeps_maxima s v is failed = false
keeps_maxima s v is (left duration) =
    within_maximum 1 s v (max_distance_at (vehicle_at s v)) (travel_n s v (home_of s v) is)
    && (within_maximum 2 s v (max_duration_at (vehicle_at s v)) duration && home_in_time s v duration)

-- ---- "A round has a lawful schedule if one of these walks does not fail"
-- "the one without rest, if the vehicle has no rest mark or the duration is ≤ earliest"
abbrev pub unneeded : List ℕ → ℕ → Walk → Bool
unneeded s v failed = false
unneeded s v (left duration) = leb duration (earliest_n s v)

abbrev pub plain_walk : List ℕ → ℕ → List ℕ → Bool
plain_walk s v is = keeps_maxima s v is (duration_n s v 0 is)

-- "with the mark, the one with the rest before any one of its stops": the first n of them
unfoldable pub some_place : List ℕ → ℕ → List ℕ → ℕ → Bool
some_place s v is zero = false
some_place s v is (suc n) = some_place s v is n || keeps_maxima s v is (duration_n s v (suc n) is)

-- "Drivers may now rest at the depot on return. Vehicle mark 8 allows it."
abbrev pub may_rest_home : List ℕ → ℕ → Bool
may_rest_home s v = marked 8 (vehicle_marks s (vehicle_at s v))

-- "a rest may start at the later of unrested return and earliest, not after latest, and the duration is its end, if the unrested walk misses no hard window"
abbrev pub rested_at_home : List ℕ → ℕ → Walk → Walk
rested_at_home s v failed = failed
rested_at_home s v (left duration) = rested s v duration

-- "Trying every place for the rest includes this last one on marked vehicles"
abbrev pub home_place : List ℕ → ℕ → List ℕ → Bool
home_place s v is = cond (may_rest_home s v) (keeps_maxima s v is (rested_at_home s v (duration_n s v 0 is))) false

unfoldable pub lawful : List ℕ → ℕ → List ℕ → Bool
lawful s v is =
    cond (rests s v)
    ((unneeded s v (duration_n s v 0 is) && plain_walk s v is) || some_place s v is (length is) || home_place s v is)
    (plain_walk s v is)

-- "It keeps capacity if its demands sum to no more than its vehicle's."
unfoldable pub load_n : List ℕ → List ℕ → ℕ
load_n s [] = 0
load_n s (i ∷ is) = demand_of s i + load_n s is

unfoldable pub keeps_capacity : List ℕ → ℕ → List ℕ → Bool
keeps_capacity s v is = leb (load_n s is) (capacity_n s v)

-- ---- "A pond makes a round alone with the depot's first vehicle, or fits at a place of a round, from before its first stop to after its last,
-- if the round so made has a lawful schedule and keeps capacity." Places count the stops before them: 0 to the round's length.
unfoldable pub makes_round : List ℕ → ℕ → List ℕ → Bool
makes_round s v is = lawful s v is && keeps_capacity s v is

abbrev pub alone : List ℕ → ℕ → ℕ → Bool
alone s v i = makes_round s v (i ∷ [])

abbrev pub with_stop : ℕ → ℕ → List ℕ → List ℕ
with_stop k i is = take k is ++ (i ∷ drop k is)

abbrev pub fits : List ℕ → ℕ → ℕ → ℕ → List ℕ → Bool
fits s v k i is = makes_round s v (with_stop k i is)

-- ---- "It is later than a round if it stands on one counted higher, or is set aside and the seed's rule would take some stop of that round before it."
-- the seed's rule: "the farthest unrouted stop, the first of equals"; whether it takes i before j
abbrev pub seed_first : List ℕ → ℕ → ℕ → ℕ → Bool
seed_first s depot i j = ltb (distance_n s depot j) (distance_n s depot i) || (eqb (distance_n s depot j) (distance_n s depot i) && ltb i j)

unfoldable pub some_seed_first : List ℕ → ℕ → List ℕ → ℕ → Bool
some_seed_first s depot [] j = false
some_seed_first s depot (i ∷ is) j = seed_first s depot i j || some_seed_first s depot is j
