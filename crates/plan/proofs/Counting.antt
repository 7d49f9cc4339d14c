-- The loop over the rounds: the plan so far, with the rounds left, is that with all, and so is the cost. Assumes nothing.
use mathlib.Core.Path.{◌≡◌, sym, ap, ◌∙◌}
use Prim.Native.Nat.{ℕ, suc, ◌+◌, ◌-◌, ◌≤◌, ◌<◌}
use native.Mathlib.Numerals.{add-one}
use native.Mathlib.Omega.{arith}
use mathlib.Core.List.{List, [], ◌∷◌}
use lib.ListN.{length, get_or}
use lib.Ieee.{Float}
use Rattle.sheet.specs.Values.{vehicle_of}
use Rattle.evaluation.specs.Limits.{limits_at}
use Rattle.evaluator.specs.Record.{price_start}
use Rattle.constructive.specs.Members.{part}
use Rattle.constructive.specs.Outcome.{Round, rounds_in, start_in}
use Rattle.plan.specs.Plan.{with_round, with_rounds, price_after, price_of}

-- ---- after k rounds
pub record Counting (s stops ends vehicles : List ℕ) (n : ℕ) (before plan : List ℕ) (cost : Float) (k : ℕ) : Type 0 where
  pub few : k ≤ n
  pub long : length plan ≡ length before
  pub same : with_rounds s k (rounds_in stops ends vehicles (n - k) (start_in ends k) k) plan ≡ with_rounds s 0 (rounds_in stops ends vehicles n 0 0) before
  pub price : price_of s cost (rounds_in stops ends vehicles (n - k) (start_in ends k) k) ≡ price_of s price_start (rounds_in stops ends vehicles n 0 0)

module _ (s stops ends vehicles : List ℕ) (n : ℕ) (before : List ℕ) where
  module _ (plan : List ℕ) (cost : Float) (k : ℕ) (g : Counting s stops ends vehicles n before plan cost k) where
    abbrev route : List ℕ
    route = part stops (start_in ends k) (get_or ends k 0)

    step : k < n → rounds_in stops ends vehicles (n - k) (start_in ends k) k ≡ record { vehicle = get_or vehicles k 0; stops = route } ∷ rounds_in stops ends vehicles (n - (k + 1)) (start_in ends (k + 1)) (k + 1)
    unfolding rounds_in
    step h = let e : n - k ≡ suc (n - (k + 1)) = omega arith in rw (e, add-one)

    pub goes_on : (after : List ℕ) (priced : Float) → k < n → length after ≡ length plan → after ≡ with_round s k (vehicle_of s (get_or vehicles k 0)) (limits_at s (get_or vehicles k 0)) route plan → priced ≡ price_after s cost (get_or vehicles k 0) route → Counting s stops ends vehicles n before after priced (k + 1)
    unfolding with_rounds price_of
    goes_on after priced h l w e = record {
      few = omega arith;
      long = l ∙ g.long;
      same = rw w (sym (ap (λ (rs : List Round). with_rounds s k rs plan) (step h)) ∙ g.same);
      price = rw e (sym (ap (price_of s cost) (step h)) ∙ g.price);
    }

    none : n ≤ k → rounds_in stops ends vehicles (n - k) (start_in ends k) k ≡ []
    unfolding rounds_in
    none h = let e : n - k ≡ 0 = omega arith in rw e

    pub ends_plan : n ≤ k → plan ≡ with_rounds s 0 (rounds_in stops ends vehicles n 0 0) before
    unfolding with_rounds
    ends_plan h = sym (ap (λ (rs : List Round). with_rounds s k rs plan) (none h)) ∙ g.same

    pub ends_price : n ≤ k → cost ≡ price_of s price_start (rounds_in stops ends vehicles n 0 0)
    unfolding price_of
    ends_price h = sym (ap (price_of s cost) (none h)) ∙ g.price
