-- Every round that the limiter leaves stands as it stood, or keeps capacity and is feasible, on every sheet. Assumes nothing.
use Rattle.std.specs.Prelude.{refl, ℕ, zero, suc, ◌+◌, ◌<◌, Bool, List, [], ◌∷◌, T, length, get_or, take, drop}
use Rattle.std.proofs.Common.{arith, leb→le}
use Rattle.std.specs.Float.Ieee.Fits.{and_l, and_r}
use Rattle.lists.specs.Every.{Every}
use Rattle.lists.specs.Laws.Every.{every_of, every_append, every_take, every_drop}
use Rattle.lists.specs.Moved.{inserted}
use Rattle.lists.specs.Laws.Moved.{inserted_length}
use Rattle.sheet.specs.Values.{demand_of, vehicle_of}
use Rattle.constructive.specs.Outcome.{Round, Outcome, round_at}
use Rattle.constructive.specs.Load.{load_of}
use Rattle.constructive.specs.Laws.Load.{inserted_load}
use Rattle.constructive.specs.Rounds.{passes}
use Rattle.insertion.specs.Lawful.{load_fits, lawful_place}
use Rattle.fleet.specs.Limit.{victim_of, put_in, Refit, dropped, drop_round, soft_in, limit_routes}
use Rattle.fleet.specs.Laws.Bounds.{place_lawful}
use Rattle.fleet.specs.Laws.Steps.{refit_on_kept, limit_on_kept}
use Rattle.fleet.specs.Stood.{Stood, untouched, refitted}

-- a round with a stop more, before its k-th
abbrev pub round_with_stop : ℕ → ℕ → Round → Round
round_with_stop k row r = record { vehicle = r.vehicle; stops = inserted k row r.stops }

-- ---- what a round keeps when it takes a stop, every round keeps
put_every : (P : Round → Type 0) (i k row : ℕ) (rs : List Round) → i < length rs → (P (round_at rs i) → P (round_with_stop k row (round_at rs i))) → Every P rs → Every P (put_in i k row rs)
unfolding put_in
put_every P i k row [] h f e = tt
put_every P zero k row (r ∷ rs) h f e = (f e.0, e.1)
put_every P (suc i) k row (r ∷ rs) h f e = (e.0, put_every P i k row rs (omega arith) f e.1)

module _ (s : List ℕ) (soft : Bool) (P : Round → Type 0) where
  abbrev pub Takes : Type 0
  Takes = (r : Round) (row k : ℕ) → T (lawful_place s 0 r.vehicle r.stops row k) → P r → P (round_with_stop k row r)

  drop_every : Takes → (o : Outcome) → Every P o.rounds → Every P (drop_round s soft o).rounds
  unfolding drop_round
  drop_every f o e =
      let i = (victim_of s o.rounds).round in
      let x = dropped s o.rounds in
      refit_on_kept s soft (λ (y : Refit). Every P y.rounds)
      (λ y j i k h p u. put_every P i k (get_or y.pending j 0) y.rounds p.round (f (round_at y.rounds i) (get_or y.pending j 0) k (place_lawful s soft y.rounds (get_or y.pending j 0) i k p)) u)
      (length x.pending) x
      (every_append P (take i o.rounds) (drop (i + 1) o.rounds) (every_take P i o.rounds e) (every_drop P (i + 1) o.rounds e))

pub limit_every : (s : List ℕ) (greatest : ℕ) (o : Outcome) (P : Round → Type 0) → Takes s (soft_in s o) P → Every P o.rounds → Every P (limit_routes s greatest o).rounds
unfolding limit_routes
limit_every s greatest o P f e = limit_on_kept s (soft_in s o) greatest (λ (q : Outcome). Every P q.rounds) (λ q h u. drop_every s (soft_in s o) P f q u) (length o.rounds) o e

stood_takes : (s : List ℕ) (soft : Bool) (before : List Round) → Takes s soft (Stood s before)
stood_takes s soft before r row k t u =
    let within = load_fits s r.vehicle r.stops row in
    let passed = passes s 0 r.vehicle (inserted k row r.stops) in
    let fits = leb→le (load_of s r.stops + demand_of s row) (vehicle_of s r.vehicle).capacity (and_l within passed t) in
    refitted (record {
      carried = record { some = omega (arith, inserted_length k row r.stops); capacity = omega (arith, fits, inserted_load k row r.stops s) };
      feasible = and_r within passed t;
    })

pub limit_kept : (s : List ℕ) (greatest : ℕ) (o : Outcome) → Every (Stood s o.rounds) (limit_routes s greatest o).rounds
limit_kept s greatest o =
    limit_every s greatest o (Stood s o.rounds) (stood_takes s (soft_in s o) o.rounds) (every_of (Stood s o.rounds) (record { vehicle = 0; stops = [] }) o.rounds (λ i h. untouched i h refl))
