-- The loop over the places of a round of which no check is asked. Assumes nothing.
use mathlib.Core.Path.{◌≡◌, sym, ap, ◌∙◌}
use Prim.Native.Nat.{ℕ, suc, ◌+◌, ◌-◌, ◌≤◌, ◌<◌}
use native.Mathlib.Omega.{arith}
use mathlib.Core.Bool.{Bool, false}
use mathlib.Core.List.{List, [], ◌∷◌}
use lib.ListN.{length}
use lib.Ieee.{Float}
use Rattle.constructive.specs.declared.terms.Terms.{Terms}
use Rattle.insertion.specs.Choice.{Choice}
use Rattle.insertion.specs.Place.{detour, costs, judged, judge, better_place, try_places}
use Rattle.insertion.specs.Laws.Judging.{hard_judge}
use Rattle.insertion.specs.Trial.{Joinable}
use Rattle.insertion.proofs.Judged.{free_passes}

-- what holds at its head
pub record Freely (s : List ℕ) (t : Terms) (route : List ℕ) (j row : ℕ) (c₀ c : Choice) (k end : ℕ) : Type 0 where
  pub last : end ≡ length route + 1
  pub within : k ≤ end
  pub same : try_places s t route j row c₀ (suc (length route)) 0 ≡ try_places s t route j row c (end - k) k

module _ (s : List ℕ) (t : Terms) (route : List ℕ) (j row : ℕ) (c₀ c : Choice) (k end : ℕ) (g : Freely s t route j row c₀ c k end) where
  -- each place costs its detour
  pub next : Joinable s t route (row ∷ []) → t.constrained ≡ false → k < end → (cost : Float) → cost ≡ detour s t.depot route row k → (d : Choice) → d ≡ better_place c j k (costs cost)
      → Freely s t route j row c₀ d (k + 1) end
  unfolding try_places
  next ok free h cost e d f =
      let told : judge s t route row k ≡ costs cost =
      hard_judge s t route row k (ok.unwalked.hard free)
      ∙ ap (λ (b : Bool). judged b (detour s t.depot route row k)) (sym (free_passes s t route row k ok free))
      ∙ ap costs (sym e) in
      record {
        last = g.last;
        within = omega arith;
        same =
            g.same
            ∙ ap (λ (n : ℕ). try_places s t route j row c n k) (let n : end - k ≡ suc (end - (k + 1)) = omega arith in n)
            ∙ ap (λ (x : Choice). try_places s t route j row x (end - (k + 1)) (k + 1)) (ap (better_place c j k) told ∙ sym f);
      }

  pub all : end ≤ k → c ≡ try_places s t route j row c₀ (suc (length route)) 0
  unfolding try_places
  all h = let n : end - k ≡ 0 = omega arith in sym (g.same ∙ rw n)
