-- The rounds that are read off a plan, one by one; and how great their figures are. Assumes nothing.
use Rattle.std.specs.Prelude.{◌≡◌, length}
use Rattle.std.proofs.Math.Path.{refl, ap}
use Rattle.std.proofs.Common.{◌∙◌, arith}
use Prim.Native.Nat.{ℕ, zero, suc, ◌+◌, ◌^◌, ◌<◌}
use mathlib.Core.List.{List, [], ◌∷◌}
use Rattle.numbers.specs.Laws.Upto.{Upto, widen}
use Rattle.sheet.specs.Accepted.{Accepted}
use Rattle.sheet.specs.Fleet.{index_of}
use Rattle.sheet.specs.Laws.Finite.{vehicle_bounded}
use Rattle.sheet.specs.Values.{vehicle_of}
use Rattle.evaluation.specs.Limits.{limits_at}
use Rattle.evaluation.specs.Laws.Limits.{limits_rest}
use Rattle.evaluator.specs.Laws.Finite.{record_bounded}
use Rattle.constructive.specs.Outcome.{Round, round_at}
use Rattle.constructive.specs.Tables.{RoundOf, RoundsOf}
use Rattle.plan.specs.Stated.{built_record}
use Rattle.plan.specs.Read.{first_stop_at, id_at, chain_of, rounds_from}

-- ---- reading
module _ (s plan : List ℕ) where
  pub rounds_long : (n k : ℕ) → length (rounds_from s plan n k) ≡ n
  unfolding rounds_from
  rounds_long zero k = refl
  rounds_long (suc n) k = ap suc (rounds_long n (k + 1))

  -- the j-th of the rounds from the k-th on
  abbrev read_at : ℕ → Round
  read_at j = record { vehicle = index_of s (id_at plan j); stops = chain_of s plan (first_stop_at plan j) }

  pub round_read : (n k j : ℕ) → j < n → round_at (rounds_from s plan n k) j ≡ read_at (k + j)
  unfolding rounds_from
  round_read zero k j h = absurd (omega arith)
  round_read (suc n) k zero h = ap read_at (omega arith)
  round_read (suc n) k (suc j) h = round_read n (k + 1) j (omega arith) ∙ ap read_at (omega arith)

-- ---- figures: finite, not negative, and at most 2 ^ 41
module _ (s : List ℕ) (a : Accepted s) where
  pub round_bounded : (r : Round) → RoundOf s r → Upto (2 ^ 41) (built_record s r).distance × Upto (2 ^ 41) (built_record s r).duration
  round_bounded r o =
      let b = record_bounded s (vehicle_of s r.vehicle).depot r.stops o.routed (limits_at s r.vehicle) (rw (limits_rest s r.vehicle) (vehicle_bounded s a r.vehicle o.vehicle).rest) in
      (widen _ (2 ^ 41) (built_record s r).distance (omega (arith, o.routed.few)) b.distance, widen _ (2 ^ 41) (built_record s r).duration (omega (arith, o.routed.few)) b.duration)

  pub rounds_bounded : (rs : List Round) → RoundsOf s rs → (k : ℕ) → k < length rs → Upto (2 ^ 41) (built_record s (round_at rs k)).distance × Upto (2 ^ 41) (built_record s (round_at rs k)).duration
  unfolding RoundsOf
  rounds_bounded [] o k h = absurd (omega arith)
  rounds_bounded (r ∷ rs) o zero h = round_bounded r o.0
  rounds_bounded (r ∷ rs) o (suc k) h = rounds_bounded rs o.1 k (omega arith)
