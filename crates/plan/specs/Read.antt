-- docs/SCOPE.md#the-limiter. Document 01, "The limiter": "Of the plan in it reads round count, ids and chains." An outcome, read off a plan's bytes: total on every list of bytes.
use Rattle.std.specs.Prelude.{ℕ, zero, suc, ◌+◌, Bool, ◌&&◌, List, [], ◌∷◌, leb}
use Rattle.wire.specs.Bytes.{u16_at, u32_at}
use Rattle.sheet.specs.Fields.{rows_of}
use Rattle.sheet.specs.Fleet.{index_of}
use Rattle.constructive.specs.Outcome.{Round, Outcome}
use Rattle.constructive.specs.Right.{outcome_right}
use Rattle.plan.specs.Plan.{round_record_at, row_record_at}

-- ---- the fields that are read
unfoldable pub rounds_at : List ℕ → ℕ
rounds_at plan = u16_at plan 0

unfoldable pub aside_at : List ℕ → ℕ
aside_at plan = u16_at plan 2

unfoldable pub id_at : List ℕ → ℕ → ℕ
id_at plan k = u32_at plan (round_record_at k)

unfoldable pub first_stop_at : List ℕ → ℕ → ℕ
first_stop_at plan k = u16_at plan (round_record_at k + 8)

unfoldable pub next_at : List ℕ → ℕ → ℕ → ℕ
next_at plan n row = u16_at plan (row_record_at n row)

-- ---- what they say
-- "zero ends a chain": a link, and the rest of its chain
abbrev pub linked : ℕ → List ℕ → List ℕ
linked zero rest = []
linked (suc link) rest = suc link ∷ rest

-- "Stops are chained by next": the chain from a link on. Of n rows no more than n links after it are followed: a chain that has not
-- ended by then has a stop twice, or a link to no stop.
unfoldable pub chain_from : List ℕ → ℕ → ℕ → ℕ → List ℕ
chain_from plan n zero link = linked link []
chain_from plan n (suc fuel) link = linked link (chain_from plan n fuel (next_at plan n link))

abbrev pub chain_of : List ℕ → List ℕ → ℕ → List ℕ
chain_of s plan link = chain_from plan (rows_of s) (rows_of s) link

-- the n rounds from the k-th on; "First stop zero is an empty round"
unfoldable pub rounds_from : List ℕ → List ℕ → ℕ → ℕ → List Round
rounds_from s plan zero k = []
rounds_from s plan (suc n) k =
    record { vehicle = index_of s (id_at plan k); stops = chain_of s plan (first_stop_at plan k) }
    ∷ rounds_from s plan n (k + 1)

unfoldable pub read_plan : List ℕ → List ℕ → Outcome
read_plan s plan = record { rounds = rounds_from s plan (rounds_at plan) 0; aside = chain_of s plan (aside_at plan) }

-- ---- 10: "over `rows` rounds, unknown id, a link to no stop, or a stop not exactly once in all chains"
-- refusal 10 is told of every other plan
unfoldable pub plan_right : List ℕ → List ℕ → Bool
plan_right s plan = leb (rounds_at plan) (rows_of s) && outcome_right s (read_plan s plan)
