-- Every member stands in the outcome as often as among the members: on one round or set aside. Assumes nothing.
use Rattle.std.specs.Prelude.{◌≡◌, Bool, cond, eqb}
use Rattle.std.proofs.Math.Path.{refl, ap}
use Rattle.std.proofs.Common.{sym, ◌∙◌}
use Prim.Native.Nat.{ℕ, suc, ◌+◌}
use native.Mathlib.Omega.{arith}
use Rattle.std.proofs.Math.Bool.{true, false}
use mathlib.Core.List.{List, [], ◌∷◌, ◌++◌, append-nil}
use Rattle.std.proofs.Math.ListN.{length}
use Rattle.lists.specs.Count.{one, count}
use Rattle.lists.specs.Laws.Once.{count_append}
use Rattle.sorting.specs.Stable.{sorted}
use Rattle.sorting.specs.Lists.{kept}
use Rattle.sorting.specs.Laws.Stable.{sorted_count}
use Rattle.constructive.specs.Outcome.{Round, chains, stops_of}
use Rattle.constructive.specs.declared.terms.Terms.{Terms}
use Rattle.constructive.specs.Terms.{terms_of}
use Rattle.sweep.specs.Angle.{sweeps_before}
use Rattle.sweep.specs.Sweep.{unservable, closes, Swept, swept_round, step, stepped, swept_from, nothing_swept, last_round, finished, swept_by, sweep}

module _ (x : ℕ) where
  -- how often a row stands on the rounds
  on : List Round → ℕ
  on [] = 0
  on (r ∷ rs) = count x r.stops + on rs

  on_more : (rs : List Round) (r : Round) → on (rs ++ (r ∷ [])) ≡ on rs + count x r.stops
  unfolding on
  on_more [] r = omega arith
  on_more (q ∷ rs) r = let e = on_more rs r in omega arith

  on_chains : (rs : List Round) (aside : List ℕ) → count x (chains rs aside) ≡ on rs + count x aside
  unfolding on chains
  on_chains [] aside = omega arith
  on_chains (r ∷ rs) aside = count_append x r.stops (chains rs aside) ∙ (let e = on_chains rs aside in omega arith)

  -- how often it stands in what is swept so far
  met : Swept → ℕ
  met w = on w.closed + count x w.route + count x w.aside

  step_meets : (t : Terms) (h c : Bool) (w : Swept) (row : ℕ) → met (step t h c w row) ≡ met w + one (eqb x row)
  unfolding met count
  step_meets t true c w row = omega (arith, count_append x w.aside (row ∷ []))
  step_meets t false true w row = omega (arith, on_more w.closed (swept_round t w.route))
  step_meets t false false w row = omega (arith, count_append x w.route (row ∷ []))

  swept_meets : (s : List ℕ) (t : Terms) (w : Swept) (rows : List ℕ) → met (swept_from s t w rows) ≡ met w + count x rows
  unfolding swept_from stepped count
  swept_meets s t w [] = omega arith
  swept_meets s t w (row ∷ rows) =
      let e = step_meets t (unservable s t row) (closes s t w.route row) w row in
      swept_meets s t (stepped s t w row) rows ∙ omega arith

  finished_meets : (t : Terms) (w : Swept) → count x (stops_of (finished t w)) ≡ met w
  unfolding met count
  finished_meets t w = on_chains (w.closed ++ last_round t w.route) w.aside ∙ ap (λ (n : ℕ). n + count x w.aside) (go w.route)
    where
      go : (route : List ℕ) → on (w.closed ++ last_round t route) ≡ on w.closed + count x route
      go [] = rw (append-nil w.closed) (omega arith)
      go (i ∷ is) = on_more w.closed (swept_round t (i ∷ is))

  kept_counts : (xs : List ℕ) → length (kept (eqb x) xs) ≡ count x xs
  unfolding kept count
  kept_counts [] = refl
  kept_counts (y ∷ ys) = go (eqb x y) (kept_counts ys)
    where
      go : (b : Bool) → length (kept (eqb x) ys) ≡ count x ys → length (cond b (y ∷ kept (eqb x) ys) (kept (eqb x) ys)) ≡ one b + count x ys
      go true e = ap suc e ∙ omega arith
      go false e = e ∙ omega arith

  pub swept_keeps : (s : List ℕ) (t : Terms) (stops : List ℕ) → count x (stops_of (swept_by s t stops)) ≡ count x stops
  unfolding swept_by met on count
  swept_keeps s t stops = finished_meets t (swept_from s t nothing_swept stops) ∙ swept_meets s t nothing_swept stops ∙ omega arith

-- the outcome's stops are a permutation of the members
pub sweep_keeps : (s : List ℕ) (depot v : ℕ) (members : List ℕ) (x : ℕ) → count x (stops_of (sweep s depot v members)) ≡ count x members
unfolding sweep
sweep_keeps s depot v members x =
    let r = sweeps_before s depot in
    swept_keeps x s (terms_of s depot v members) (sorted r members)
    ∙ sym (kept_counts x (sorted r members))
    ∙ sorted_count r (eqb x) members
    ∙ kept_counts x members
