-- The loop over the places of a round. Assumes nothing.
use mathlib.Core.Path.{◌≡◌, sym, ap, ◌∙◌}
use Prim.Native.Nat.{ℕ, suc, ◌+◌, ◌-◌, ◌≤◌, ◌<◌}
use native.Mathlib.Omega.{arith}
use mathlib.Core.List.{List}
use lib.ListN.{length}
use Rattle.constructive.specs.declared.terms.Terms.{Terms}
use Rattle.insertion.specs.Choice.{Choice}
use Rattle.insertion.specs.declared.place.Tried.{Tried}
use Rattle.insertion.specs.Place.{judge, better_place, try_places}
use Rattle.insertion.specs.Trial.{Trial}

pub record Placing (s : List ℕ) (t : Terms) (route : List ℕ) (j row : ℕ) (tried₀ tried : Tried) (trial : List ℕ) (k end : ℕ) : Type 0 where
  pub last : end ≡ length route + 1
  pub within : k ≤ end
  pub holds : Trial route row tried.at trial
  pub same : try_places s t route j row tried₀.choice (suc (length route)) 0 ≡ try_places s t route j row tried.choice (end - k) k

module _ (s : List ℕ) (t : Terms) (route : List ℕ) (j row : ℕ) (tried₀ tried : Tried) (trial : List ℕ) (k end : ℕ) (g : Placing s t route j row tried₀ tried trial k end) where
  pub places : (tried' : Tried) (trial' : List ℕ) → k < end → tried'.choice ≡ better_place tried.choice j k (judge s t route row k) → Trial route row tried'.at trial'
      → Placing s t route j row tried₀ tried' trial' (k + 1) end
  unfolding try_places
  places tried' trial' h e f = record {
    last = g.last;
    within = omega arith;
    holds = f;
    same =
        g.same
        ∙ ap (λ (n : ℕ). try_places s t route j row tried.choice n k) (let n : end - k ≡ suc (end - (k + 1)) = omega arith in n)
        ∙ ap (λ (c : Choice). try_places s t route j row c (end - (k + 1)) (k + 1)) (sym e);
  }

  pub placed : end ≤ k → tried.choice ≡ try_places s t route j row tried₀.choice (suc (length route)) 0
  unfolding try_places
  placed h = let n : end - k ≡ 0 = omega arith in sym (g.same ∙ rw n)
