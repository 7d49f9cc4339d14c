-- What each stop put into a round keeps, and each round dropped, the limiter keeps. Assumes nothing.
use Rattle.std.specs.Prelude.{◌≡◌, Bool, cond, List, get_or, Some, None}
use Rattle.std.proofs.Math.Path.{refl}
use Prim.Native.Nat.{ℕ, zero, suc, ◌<◌}
use Rattle.std.proofs.Common.{arith}
use Rattle.std.proofs.Math.Bool.{true, false}
use Rattle.std.proofs.Math.Dec.{ltb}
use Rattle.std.proofs.Math.ListN.{length}
use borrow.Author.Tests.{ltb-true}
use Rattle.lists.specs.Moved.{without}
use Rattle.constructive.specs.Outcome.{Outcome}
use Rattle.fleet.specs.Pick.{Pick}
use Rattle.fleet.specs.Cheapest.{pick_of}
use Rattle.fleet.specs.Limit.{put_in, Refit, refit_by, refit, refit_on, drop_round, limit_on}
use Rattle.fleet.specs.Laws.Bounds.{Place, Picked, pick_picked}

-- ---- the stops of a round that is dropped
module _ (s : List ℕ) (soft : Bool) (P : Refit → Type 0) where
  abbrev pub Refits : Type 0
  Refits = (x : Refit) (j i k : ℕ) → j < length x.pending → Place s soft x.rounds (get_or x.pending j 0) i k → P x
      → P (record { rounds = put_in i k (get_or x.pending j 0) x.rounds; pending = without j x.pending })

  refit_by_kept : Refits → (x : Refit) (p : Pick) → Picked s soft x.rounds x.pending p → P x → P (refit_by x p)
  refit_by_kept f x None h u = u
  refit_by_kept f x (Some (j, i, k, cost)) h u = f x j i k h.0 h.1 u

  pub refit_on_kept : Refits → (n : ℕ) (x : Refit) → P x → P (refit_on s soft n x)
  unfolding refit_on refit
  refit_on_kept f zero x u = u
  refit_on_kept f (suc n) x u = refit_on_kept f n (refit s soft x) (refit_by_kept f x (pick_of s soft x.rounds x.pending) (pick_picked s soft x.rounds x.pending) u)

-- ---- the rounds that are dropped
module _ (s : List ℕ) (soft : Bool) (greatest : ℕ) (P : Outcome → Type 0) where
  pub limit_on_kept : ((o : Outcome) → 0 < length o.rounds → P o → P (drop_round s soft o)) → (n : ℕ) (o : Outcome) → P o → P (limit_on s soft greatest n o)
  unfolding limit_on
  limit_on_kept f zero o u = u
  limit_on_kept f (suc n) o u = go (ltb greatest (length o.rounds)) refl (λ h. limit_on_kept f n (drop_round s soft o) (f o h u))
    where
      go : (b : Bool) → ltb greatest (length o.rounds) ≡ b → (0 < length o.rounds → P (limit_on s soft greatest n (drop_round s soft o))) → P (cond b (limit_on s soft greatest n (drop_round s soft o)) o)
      go true e r = let h = ltb-true greatest (length o.rounds) e in r (omega arith)
      go false e r = u
