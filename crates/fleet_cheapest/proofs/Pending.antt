-- The loop over the stops pending: the pick so far, with the stops left, is that of all. Assumes nothing.
use mathlib.Core.Path.{◌≡◌}
use Prim.Native.Nat.{ℕ, ◌+◌, ◌≤◌, ◌<◌}
use native.Mathlib.Numerals.{add-one}
use native.Mathlib.Omega.{arith}
use mathlib.Core.Bool.{Bool}
use mathlib.Core.List.{List}
use lib.ListN.{length, get_or, drop}
use lib.Seq.{drop-cons, drop-length}
use Rattle.constructive.specs.Outcome.{Round}
use Rattle.fleet.specs.Pick.{Pick}
use Rattle.fleet.specs.Cheapest.{cheapest_insertion, pick_with, pick_from, pick_of}

-- what holds after j of the stops pending
pub record Picking (s : List ℕ) (soft : Bool) (rounds : List Round) (pending : List ℕ) (best : Pick) (j end : ℕ) : Type 0 where
  pub last : end ≡ length pending
  pub within : j ≤ end
  pub same : pick_from s soft rounds best j (drop j pending) ≡ pick_of s soft rounds pending

module _ {s : List ℕ} {soft : Bool} {rounds : List Round} {pending : List ℕ} where
  module _ {best : Pick} {j end : ℕ} (g : Picking s soft rounds pending best j end) where
    pub goes_on : (next : Pick) → j < end → next ≡ pick_with best j (cheapest_insertion s soft rounds (get_or pending j 0)) → Picking s soft rounds pending next (j + 1) end
    unfolding pick_from
    goes_on next h e =
        let k : j < length pending = omega (arith, g.last) in
        record {
          last = g.last;
          within = omega arith;
          same = rw e (rw (drop-cons pending j 0 k, ← add-one j) at g.same);
        }

    pub done : end ≤ j → best ≡ pick_of s soft rounds pending
    unfolding pick_from
    done h = let e : j ≡ length pending = omega (arith, g.last, g.within) in rw (e, drop-length pending) at g.same
