-- The loop over a round's stops: the record so far, walked on over the stops left, is that of the whole round. Assumes nothing.
use mathlib.Core.Path.{◌≡◌, refl, sym, ap, ◌∙◌, subst}
use Prim.Native.Nat.{ℕ, ◌+◌, ◌*◌, ◌≤◌, ◌<◌}
use native.Mathlib.Omega.{arith}
use mathlib.Core.List.{List}
use lib.ListN.{length, drop, get_or}
use lib.Ieee.{Float}
use Rattle.lists.specs.Laws.Fold.{fold_turn, fold_done}
use Rattle.sheet.specs.Fields.{rows_of}
use Rattle.sheet.specs.Accepted.{Accepted}
use Rattle.sheet.specs.Values.{stop_of}
use Rattle.sheet.specs.Laws.Finite.{demand_bounded}
use Rattle.sheet.specs.declared.customer.Stop.{Stop}
use Rattle.sheet.specs.declared.customer.Gate.{Gate}
use Rattle.sheet.specs.declared.customer.Gate.TheVariants.{Open, Hard, Soft}
use Rattle.evaluation_clock.specs.Sums.{◌⊕◌}
use Rattle.evaluation_clock.specs.Window.{service_start}
use Rattle.evaluation.specs.Routed.{Routed}
use Rattle.evaluator.specs.declared.Progress.{Progress}
use Rattle.evaluator.specs.declared.Placed.{Placed}
use Rattle.evaluator.specs.Driven.{Driven}
use Rattle.evaluator.specs.Record.{departs_at, begin_of, visited_of, progress_of}

pub stop_demand : (s : List ℕ) → Accepted s → (i : ℕ) → i < rows_of s → (t : Stop) → t ≡ stop_of s i → t.demand ≤ 1000000
unfolding stop_of
stop_demand s a i h t e = subst (λ (u : Stop). u.demand ≤ 1000000) (sym e) (demand_bounded s a i h)

-- the departure is the service's start, plus the service
pub departs_lem : (g : Gate) (ready service : Float) → departs_at g ready service ≡ service_start g ready ⊕ service
unfolding departs_at
departs_lem Open ready service = refl
departs_lem (Hard w) ready service = refl
departs_lem (Soft w penalty) ready service = refl

-- what holds after i stops
pub record Going (s : List ℕ) (depot : ℕ) (t : Placed) (route : List ℕ) (p : Progress) (i : ℕ) : Type 0 where
  pub few : i ≤ length route
  pub from : p.prev < rows_of s
  pub place : p.place ≡ i + 1
  pub load : p.load ≤ 1000000 * i
  pub same : progress_of s t p (drop i route) ≡ progress_of s t (begin_of depot) route

module _ (s : List ℕ) (depot : ℕ) (t : Placed) (route : List ℕ) (ok : Routed s depot route) where
  pub begins : Going s depot t route (begin_of depot) 0
  begins = record { few = omega arith; from = ok.home; place = refl; load = omega arith; same = refl }

  pub driven : (p : Progress) (i : ℕ) → Going s depot t route p i → i < length route → Driven s p
  driven p i g h = record {
    sheet = ok.sheet;
    from = g.from;
    room = omega (arith, g.place, ok.few);
    load = omega (arith, g.place, g.load);
  }

  pub goes_on : (p q : Progress) (i : ℕ) → Going s depot t route p i → i < length route → q ≡ visited_of s t p (get_or route i 0) → Going s depot t route q (i + 1)
  unfolding visited_of
  goes_on p q i g h e =
      let d = stop_demand s ok.sheet (get_or route i 0) (ok.row i h) (stop_of s (get_or route i 0)) refl in
      record {
        few = omega arith;
        from = subst (λ (r : Progress). r.prev < rows_of s) (sym e) (ok.row i h);
        place = ap (λ (r : Progress). r.place) e ∙ omega (arith, g.place);
        load = subst (λ (r : Progress). r.load ≤ 1000000 * (i + 1)) (sym e) (omega (arith, g.load, d));
        same = rw e (sym (fold_turn (visited_of s t) p route i 0 h) ∙ g.same);
      }

  pub ends : (p : Progress) (i : ℕ) → Going s depot t route p i → length route ≤ i → p ≡ progress_of s t (begin_of depot) route
  ends p i g h = sym (fold_done (visited_of s t) p route i h) ∙ g.same
