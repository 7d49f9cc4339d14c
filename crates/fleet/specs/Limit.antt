-- docs/SCOPE.md#the-limiter. Document 01, "fleet.rs": "the limiter drops the round of least load, then fewest stops, then first, and reinserts its stops cheapest first."
use Rattle.std.specs.Prelude.{ℕ, zero, suc, ◌+◌, Bool, ◌&&◌, ◌||◌, cond, List, [], ◌∷◌, ◌++◌, ltb, eqb, length, get_or, take, drop, Some, None}
use Rattle.lists.specs.Moved.{without, inserted}
use Rattle.lists.specs.Count.{is_in}
use Rattle.sheet.specs.Stops.{stops_with}
use Rattle.evaluation.specs.Checks.{has_soft_windows}
use Rattle.constructive.specs.Outcome.{Round, Outcome, stops_of}
use Rattle.constructive.specs.Load.{load_of}
use Rattle.fleet.specs.Cheapest.{pick_of}
use Rattle.fleet.specs.Pick.{Pick}

-- ---- the round that is dropped
-- "the round of least load, then fewest stops": a later one only if it is less, so "then first"
abbrev pub lesser : List ℕ → List ℕ → List ℕ → Bool
lesser s stops than = ltb (load_of s stops) (load_of s than) || (eqb (load_of s stops) (load_of s than) && ltb (length stops) (length than))

-- the least so far, by its number, counted from 0, and its stops
pub record Least : Type 0 where
  pub round : ℕ
  pub stops : List ℕ

abbrev pub least_with : List ℕ → Least → ℕ → List ℕ → Least
least_with s l i stops = cond (lesser s stops l.stops) (record { round = i; stops = stops }) l

-- the rounds from the i-th on
unfoldable pub least_from : List ℕ → Least → ℕ → List Round → Least
least_from s l i [] = l
least_from s l i (r ∷ rs) = least_from s (least_with s l i r.stops) (i + 1) rs

unfoldable pub victim_of : List ℕ → List Round → Least
victim_of s [] = record { round = 0; stops = [] }
victim_of s (r ∷ rs) = least_from s (record { round = 0; stops = r.stops }) 1 rs

abbrev pub without_round : ℕ → List Round → List Round
without_round i rounds = take i rounds ++ drop (i + 1) rounds

-- ---- its stops go to other rounds
-- the round counted i with a stop more, before its k-th
unfoldable pub put_in : ℕ → ℕ → ℕ → List Round → List Round
put_in i k row [] = []
put_in zero k row (r ∷ rs) = record { vehicle = r.vehicle; stops = inserted k row r.stops } ∷ rs
put_in (suc i) k row (r ∷ rs) = r ∷ put_in i k row rs

-- the rounds that remain, and the stops that are still on none
pub record Refit : Type 0 where
  pub rounds : List Round
  pub pending : List ℕ

abbrev pub refit_by : Refit → Pick → Refit
refit_by x None = x
refit_by x (Some (j, i, k, cost)) = record { rounds = put_in i k (get_or x.pending j 0) x.rounds; pending = without j x.pending }

unfoldable pub refit : List ℕ → Bool → Refit → Refit
refit s soft x = refit_by x (pick_of s soft x.rounds x.pending)

-- n choices
unfoldable pub refit_on : List ℕ → Bool → ℕ → Refit → Refit
refit_on s soft zero x = x
refit_on s soft (suc n) x = refit_on s soft n (refit s soft x)

-- ---- one round dropped: as many choices as it has stops. What no round takes is set aside.
abbrev pub dropped : List ℕ → List Round → Refit
dropped s rounds =
    let v = victim_of s rounds in
    record { rounds = without_round v.round rounds; pending = v.stops }

abbrev pub with_aside_first : Refit → List ℕ → Outcome
with_aside_first x aside = record { rounds = x.rounds; aside = x.pending ++ aside }

unfoldable pub drop_round : List ℕ → Bool → Outcome → Outcome
drop_round s soft o =
    let x = dropped s o.rounds in
    with_aside_first (refit_on s soft (length x.pending) x) o.aside

-- ---- the limiter
-- at most n rounds are dropped, each while there are more than `greatest`
unfoldable pub limit_on : List ℕ → Bool → ℕ → ℕ → Outcome → Outcome
limit_on s soft greatest zero o = o
limit_on s soft greatest (suc n) o = cond (ltb greatest (length o.rounds)) (limit_on s soft greatest n (drop_round s soft o)) o

-- "the chain comes out ascending"
abbrev pub ascending : List ℕ → List ℕ → List ℕ
ascending s aside = stops_with s (λ c. is_in c aside)

-- every stop of the sheet stands in the outcome, so its stops and the depot's row are all rows
abbrev pub soft_in : List ℕ → Outcome → Bool
soft_in s o = has_soft_windows s 0 (stops_of o)

-- `limit_routes`: "Stops set aside before stay so; the chain comes out ascending."
unfoldable pub limit_routes : List ℕ → ℕ → Outcome → Outcome
limit_routes s greatest o =
    let l = limit_on s (soft_in s o) greatest (length o.rounds) o in
    record { rounds = l.rounds; aside = ascending s l.aside }
