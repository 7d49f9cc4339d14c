-- One place judged: skipped, passed without a walk, or walked. Assumes nothing.
use Rattle.std.specs.Prelude.{Option, Some, None, is_some}
use mathlib.Core.Path.{◌≡◌, refl, sym, ap, ◌∙◌}
use Prim.Native.Nat.{ℕ}
use mathlib.Core.Bool.{Bool, true, false, not, cond}
use mathlib.Core.List.{List, [], ◌∷◌}
use lib.Ieee.{Float, le}
use lib.Ieee.Bits.{is_true}
use Rattle.lists.specs.Moved.{inserted}
use Rattle.lists.specs.Laws.Moved.{inserted_every}
use Rattle.evaluation_clock.specs.Sums.{◌⊖◌}
use Rattle.evaluation.specs.Feasible.{route_eval, priced_distance, cost_of, effective_cost}
use Rattle.evaluation.specs.Laws.Verdict.{allowed_feasible}
use Rattle.evaluation_clock.specs.declared.clock.Schedule.{Schedule}
use Rattle.constructive.specs.Unchecked.{Windowless}
use Rattle.constructive.specs.Laws.Unchecked.{free_feasible}
use Rattle.constructive.specs.declared.terms.Terms.{Terms}
use Rattle.insertion.specs.Choice.{Choice}
use Rattle.insertion.specs.declared.place.Prices.{Prices}
use Rattle.insertion.specs.Place.{feasible_in, detour, costs, judged, judge, wins, better_place}
use Rattle.insertion.specs.Laws.Judging.{hard_judge, dear_skipped, cheap_walked}
use Rattle.insertion.specs.Trial.{Joinable, prices_of, judge_trial}

-- ---- without soft windows
module _ (s : List ℕ) (t : Terms) (route : List ℕ) (row k : ℕ) (hard : t.soft ≡ false) (c : Choice) (j : ℕ) (cost : Float) (e : cost ≡ detour s t.depot route row k) where
  told : judge s t route row k ≡ judged (feasible_in s t (inserted k row route)) cost
  told = hard_judge s t route row k hard ∙ ap (judged (feasible_in s t (inserted k row route))) (sym e)

  pub hard_lost : wins cost c ≡ false → c ≡ better_place c j k (judge s t route row k)
  hard_lost w = sym (ap (better_place c j k) told ∙ dear_skipped c j k (feasible_in s t (inserted k row route)) cost w)

  -- a place that is walked
  module _ (b : Bool) (f : b ≡ feasible_in s t (inserted k row route)) where
    pub hard_out : b ≡ false → c ≡ better_place c j k (judge s t route row k)
    hard_out g = sym (ap (better_place c j k) (told ∙ ap (λ (x : Bool). judged x cost) (sym f ∙ g)))

    pub hard_won : wins cost c ≡ true → b ≡ true → Some (j, k, cost) ≡ better_place c j k (judge s t route row k)
    hard_won w g = sym (ap (better_place c j k) (told ∙ ap (λ (x : Bool). judged x cost) (sym f ∙ g)) ∙ cheap_walked c j k true cost w)

-- where no check is asked, the walk would pass
pub free_passes : (s : List ℕ) (t : Terms) (route : List ℕ) (row k : ℕ) → Joinable s t route (row ∷ []) → t.constrained ≡ false → true ≡ feasible_in s t (inserted k row route)
free_passes s t route row k ok e =
    let free = ok.unwalked in
    sym (is_true _ (free_feasible s t.depot t.limits (free.free e) (inserted k row route) (inserted_every k row route (Windowless s) (free.unrouted e).0 (free.round e))))

-- ---- with soft windows
-- prices tell that the soft rules are asked
priced : (b : Bool) (p q : Prices) → Some p ≡ cond b (Some q) None → (b ≡ true) × (p ≡ q)
priced true p q e = (refl, cc)
priced false p q e = (cc, cc)

pub soft_told : (s : List ℕ) (t : Terms) (route : List ℕ) (row k : ℕ) (p : Prices) (trial : List ℕ) → Some p ≡ prices_of s t route row → trial ≡ inserted k row route → judge_trial s t p trial ≡ judge s t route row k
unfolding judge judge_trial
soft_told s t route row k p trial e g = let soft = priced t.soft p _ e in rw (soft.1, g, soft.0)

module _ (s : List ℕ) (t : Terms) (p : Prices) (trial : List ℕ) (best : Choice) (j k : ℕ) (x : Option Schedule) (e : x ≡ route_eval s t.depot t.limits trial) where
  pub not_allowed_lem : x ≡ None → best ≡ better_place best j k (judge_trial s t p trial)
  unfolding judge_trial
  not_allowed_lem f = let out : feasible_in s t trial ≡ false = sym (allowed_feasible s t.depot t.limits trial) ∙ ap is_some (sym e ∙ f) in rw out

  module _ (figures : Schedule) (f : x ≡ Some figures) (cost : Float) (g : cost ≡ priced_distance figures ⊖ p.round) where
    weighed : judge_trial s t p trial ≡ judged (not (le p.alone cost)) cost
    unfolding judge_trial effective_cost cost_of
    weighed =
        let passes : feasible_in s t trial ≡ true = sym (allowed_feasible s t.depot t.limits trial) ∙ ap is_some (sym e ∙ f) in
        rw (passes, ← e, f, ← g)

    pub too_dear : le p.alone cost ≡ true → best ≡ better_place best j k (judge_trial s t p trial)
    too_dear h = rw (weighed, h)

    pub cheap_enough : le p.alone cost ≡ false → better_place best j k (costs cost) ≡ better_place best j k (judge_trial s t p trial)
    cheap_enough h = rw (weighed, h)
