-- What the parts of the reader tell: a chain that is followed, the rounds so far, rows that stand twice.
use Rattle.std.specs.Prelude.{◌≡◌, ℕ, ◌-◌, ◌≤◌, ◌<◌, Bool, true, false, List, ◌++◌, T, length, get_or, take, drop, Option, Some, None}
use Rattle.lists.specs.Count.{count}
use Rattle.sheet.specs.Fields.{rows_of, vehicles_of}
use Rattle.sheet.specs.Fleet.{index_of}
use Rattle.constructive.specs.Outcome.{start_in, chains, stops_of}
use Rattle.constructive.specs.Right.{links_right}
use Rattle.plan.specs.Read.{rounds_at, aside_at, id_at, first_stop_at, chain_of, rounds_from, read_plan, plan_right}
use Rattle.plan_reader.specs.Reading.{stop_count}

-- rows that are all stops, no more than there are, the first of the table
pub record Followed (s rows stops : List ℕ) (end : ℕ) : Type 0 where
  pub room : end ≤ stop_count s
  pub same : rows ≡ take end stops
  pub links : T (links_right s rows)

-- `rows` are those before a chain and then its own: a link to no stop, or more than there are, breaks it
abbrev pub FollowedAs : List ℕ → List ℕ → Option ℕ → List ℕ → Type 0
FollowedAs s rows (Some end) stops = Followed s rows stops end
FollowedAs s rows None stops = T (links_right s rows) → stop_count s < length rows

-- the j-th round, read into tables whose first `at` stops are taken
pub record RoundRead (s plan stops ends vehicles : List ℕ) (at j : ℕ) : Type 0 where
  pub index : get_or vehicles j 0 ≡ index_of s (id_at plan j)
  pub known : get_or vehicles j 0 < vehicles_of s
  pub from : start_in ends j ≤ get_or ends j 0
  pub to : get_or ends j 0 ≤ at
  pub chain : take (get_or ends j 0 - start_in ends j) (drop (start_in ends j) stops) ≡ chain_of s plan (first_stop_at plan j)

-- the first k rounds, and the chains that are left
pub record RoundsRead (s plan stops ends vehicles : List ℕ) (k at : ℕ) : Type 0 where
  pub few : k ≤ rounds_at plan
  pub place : at ≡ start_in ends k
  pub room : at ≤ stop_count s
  pub read : (j : ℕ) → j < k → RoundRead s plan stops ends vehicles at j
  pub links : T (links_right s (take at stops))
  pub whole : stops_of (read_plan s plan) ≡ take at stops ++ chains (rounds_from s plan (rounds_at plan - k) k) (chain_of s plan (aside_at plan))

abbrev pub RoundsAs : List ℕ → List ℕ → ℕ → Option ℕ → List ℕ → List ℕ → List ℕ → Type 0
RoundsAs s plan k (Some at) stops ends vehicles = RoundsRead s plan stops ends vehicles k at
RoundsAs s plan k None stops ends vehicles = plan_right s plan ≡ false

-- every round, and the chain after them: `total` stops in all
pub record ChainsRead (s plan stops ends vehicles : List ℕ) (total : ℕ) : Type 0 where
  pub few : rounds_at plan ≤ rows_of s
  pub room : total ≤ stop_count s
  pub read : (j : ℕ) → j < rounds_at plan → RoundRead s plan stops ends vehicles total j
  pub aside : take (total - start_in ends (rounds_at plan)) (drop (start_in ends (rounds_at plan)) stops) ≡ chain_of s plan (aside_at plan)
  pub links : T (links_right s (take total stops))
  pub whole : stops_of (read_plan s plan) ≡ take total stops

abbrev pub ChainsAs : List ℕ → List ℕ → Option ℕ → List ℕ → List ℕ → List ℕ → Type 0
ChainsAs s plan (Some total) stops ends vehicles = ChainsRead s plan stops ends vehicles total
ChainsAs s plan None stops ends vehicles = plan_right s plan ≡ false

-- no row twice
abbrev pub Single : List ℕ → Type 0
Single rows = (r : ℕ) → count r rows ≤ 1

abbrev pub SingleAs : Bool → List ℕ → Type 0
SingleAs true rows = Single rows
SingleAs false rows = Single rows → ⊥
