-- The loop over the rounds: the best so far, with the rounds left, is that of all. Assumes nothing.
use mathlib.Core.Path.{◌≡◌, ◌∙◌}
use Prim.Native.Nat.{ℕ, suc, ◌+◌, ◌-◌, ◌≤◌, ◌<◌}
use native.Mathlib.Numerals.{add-one}
use native.Mathlib.Omega.{arith}
use mathlib.Core.Bool.{Bool}
use mathlib.Core.List.{List}
use lib.ListN.{length, get_or}
use Rattle.constructive.specs.Members.{part}
use Rattle.constructive.specs.Outcome.{rounds_in, start_in}
use Rattle.insertion.specs.Choice.{Choice}
use Rattle.fleet.specs.Cheapest.{in_round, insertion_from, cheapest_insertion}

-- ---- after i rounds
pub record Inserting (s stops ends vehicles : List ℕ) (n : ℕ) (soft : Bool) (row : ℕ) (trial₀ trial : List ℕ) (best : Choice) (i : ℕ) : Type 0 where
  pub few : i ≤ n
  pub long : length trial ≡ length trial₀
  pub same : insertion_from s soft row best i (rounds_in stops ends vehicles (n - i) (start_in ends i) i) ≡ cheapest_insertion s soft (rounds_in stops ends vehicles n 0 0) row

module _ {s stops ends vehicles : List ℕ} {n : ℕ} {soft : Bool} {row : ℕ} {trial₀ : List ℕ} where
  module _ {trial : List ℕ} {best : Choice} {i : ℕ} (g : Inserting s stops ends vehicles n soft row trial₀ trial best i) where
    pub goes_on : (after : List ℕ) (next : Choice) → i < n → length after ≡ length trial → next ≡ in_round s soft row best i (record { vehicle = get_or vehicles i 0; stops = part stops (start_in ends i) (get_or ends i 0) })
        → Inserting s stops ends vehicles n soft row trial₀ after next (i + 1)
    unfolding insertion_from rounds_in
    goes_on after next h l e = record {
      few = omega arith;
      long = l ∙ g.long;
      same = let m : n - i ≡ suc (n - (i + 1)) = omega arith in let starts : start_in ends (i + 1) ≡ get_or ends i 0 = rw add-one in rw (e, starts) (rw m at g.same);
    }

    pub done : n ≤ i → best ≡ cheapest_insertion s soft (rounds_in stops ends vehicles n 0 0) row
    unfolding insertion_from rounds_in
    done h = let m : n - i ≡ 0 = omega arith in rw m at g.same
