-- A round: its visits, then its record. Assumes nothing.
use mathlib.Core.Path.{◌≡◌}
use Prim.Native.Nat.{ℕ, suc, suc-le-suc, ◌<◌}
use native.Mathlib.Omega.{arith}
use mathlib.Core.List.{List, [], ◌∷◌}
use lib.ListN.{length, get_or}
use Rattle.wire.specs.Bytes.{write}
use Rattle.sheet.specs.Fields.{rows_of}
use Rattle.sheet.specs.declared.vehicle.Vehicle.{Vehicle}
use Rattle.evaluation.specs.Routed.{Routed}
use Rattle.evaluation.specs.declared.limits.RouteLimits.{RouteLimits}
use Rattle.evaluator.specs.declared.Progress.{Progress}
use Rattle.evaluator.specs.declared.Placed.{Placed}
use Rattle.evaluator.specs.declared.Record.{Record}
use Rattle.evaluator.specs.Record.{placed_of, begin_of, visited_of, progress_of, record_of, build_route}
use Rattle.plan.specs.Plan.{first_of, round_record_at, round_bytes, with_visits, with_round}

prev_in : (s : List ℕ) (t : Placed) (rows : List ℕ) (p : Progress) → p.prev < rows_of s → ((k : ℕ) → k < length rows → get_or rows k 0 < rows_of s) → (progress_of s t p rows).prev < rows_of s
unfolding visited_of
prev_in s t [] p h r = h
prev_in s t (row ∷ rows) p h r = prev_in s t rows (visited_of s t p row) (r 0 (omega arith)) (λ k l. r (suc k) (suc-le-suc l))

module _ (s : List ℕ) (v : Vehicle) (limits : RouteLimits) (route : List ℕ) (t : Placed) (p : Progress) (told : t ≡ placed_of s v.depot limits route) (gone : p ≡ progress_of s t (begin_of v.depot) route) where
  -- the last stop is a row, or the depot is
  pub from : Routed s v.depot route → p.prev < rows_of s
  from ok = rw gone (prev_in s t route (begin_of v.depot) ok.home ok.row)

  module _ (r : Record) (summed : r ≡ record_of s v.depot t p) where
    pub figures : r ≡ build_route s v.depot limits route
    unfolding build_route
    figures = rw (summed, gone, told)

    pub rounded : (k start : ℕ) (before plan after : List ℕ) → start ≡ first_of route → plan ≡ with_visits s t (begin_of v.depot) route before → after ≡ write plan (round_record_at k) (round_bytes v.id start r) → after ≡ with_round s k v limits route before
    unfolding with_round
    rounded k start before plan after e w a = rw (a, w, e, figures, told)
