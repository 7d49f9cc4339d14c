-- What each insertion keeps, a round has when it closes; and then no stop left can join it. Assumes nothing.
use Rattle.std.specs.Prelude.{◌≡◌, get_or, Some, None}
use Rattle.std.proofs.Math.Path.{refl, subst}
use Rattle.std.proofs.Common.{sym, arith}
use Prim.Native.Nat.{ℕ, zero, suc, ◌≤◌, ◌<◌}
use mathlib.Core.List.{List, [], ◌∷◌}
use Rattle.std.proofs.Math.ListN.{length}
use Rattle.lists.specs.Every.{Every}
use Rattle.lists.specs.Moved.{without, inserted}
use Rattle.lists.specs.Laws.Moved.{without_length}
use Rattle.constructive.specs.declared.terms.Terms.{Terms}
use Rattle.insertion.specs.Choice.{Choice}
use Rattle.solomon_i1_judging.specs.Choice.{best_of}
use Rattle.solomon_i1_judging.specs.Laws.Chosen.{Place, Chosen, best_chosen, Shut, none_shut}
use Rattle.solomon_i1.specs.Insertion.{Growth, growing, grown, grown_by, grow, grow_on, route_in, left_in}

-- ---- what each insertion keeps of the round and the stops left
abbrev pub Keeps : List ℕ → Terms → (List ℕ → List ℕ → Type 0) → Type 0
Keeps s t K = (route left : List ℕ) (j k : ℕ) → j < length left → Place s t route (get_or left j 0) k → K route left → K (inserted k (get_or left j 0) route) (without j left)

module _ (s : List ℕ) (t : Terms) (K : List ℕ → List ℕ → Type 0) (keeps : Keeps s t K) where
  grown_by_lem : (route left : List ℕ) (c : Choice) → Chosen s t route left c → K route left → K (route_in (grown_by route left c)) (left_in (grown_by route left c))
  grown_by_lem route left None u k = k
  grown_by_lem route left (Some (j, p, cost)) u k = keeps route left j p u.0 u.1 k

  grow_kept : (g : Growth) → K (route_in g) (left_in g) → K (route_in (grow s t g)) (left_in (grow s t g))
  unfolding grow
  grow_kept (growing route left) k = grown_by_lem route left (best_of s t route left) (best_chosen s t route left) k
  grow_kept (grown route left) k = k

  pub grow_on_kept : (n : ℕ) (g : Growth) → K (route_in g) (left_in g) → K (route_in (grow_on s t n g)) (left_in (grow_on s t n g))
  unfolding grow_on
  grow_on_kept zero g k = k
  grow_on_kept (suc n) g k = grow_on_kept n (grow s t g) (grow_kept g k)

-- ---- when it closes
abbrev pub ShutOut : List ℕ → Terms → Growth → Type 0
ShutOut s t g = Every (Shut s t (route_in g)) (left_in g)

module _ (s : List ℕ) (t : Terms) where
  pub stays : (n : ℕ) (route left : List ℕ) → grow_on s t n (grown route left) ≡ grown route left
  unfolding grow_on grow
  stays zero route left = refl
  stays (suc n) route left = stays n route left

  -- as many choices as there are stops left are enough
  pub grow_on_shut : (n : ℕ) (route left : List ℕ) → length left ≤ n → ShutOut s t (grow_on s t n (growing route left))
  unfolding grow_on grow
  grow_on_shut zero route [] h = tt
  grow_on_shut zero route (row ∷ rows) h = absurd (omega (arith, h))
  grow_on_shut (suc n) route left h = go (best_of s t route left) refl (best_chosen s t route left) (λ route' left' l. grow_on_shut n route' left' l)
    where
      go : (c : Choice) → best_of s t route left ≡ c → Chosen s t route left c → ((route' left' : List ℕ) → length left' ≤ n → ShutOut s t (grow_on s t n (growing route' left')))
          → ShutOut s t (grow_on s t n (grown_by route left c))
      go None e u f = subst (ShutOut s t) (sym (stays n route left)) (none_shut s t route left e)
      go (Some (j, k, cost)) e u f =
          let l = without_length left j u.0 in
          f (inserted k (get_or left j 0) route) (without j left) (omega (arith, l, h))
