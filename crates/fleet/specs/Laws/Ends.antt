-- As many choices as there are stops pending are enough: after them nothing more is picked, as where the Rust leaves its loop. Assumes nothing.
use Rattle.std.specs.Prelude.{◌≡◌, Bool, Some, None}
use Rattle.std.proofs.Math.Path.{refl, ap}
use Rattle.std.proofs.Common.{◌∙◌, arith}
use Prim.Native.Nat.{ℕ, zero, suc, ◌≤◌}
use mathlib.Core.List.{List, [], ◌∷◌}
use Rattle.std.proofs.Math.ListN.{length}
use Rattle.lists.specs.Laws.Moved.{without_length}
use Rattle.constructive.specs.Outcome.{Round}
use Rattle.fleet.specs.Pick.{Pick}
use Rattle.fleet.specs.Cheapest.{pick_from, pick_of}
use Rattle.fleet.specs.Limit.{Refit, refit_by, refit, refit_on}
use Rattle.fleet.specs.Laws.Bounds.{Picked, pick_picked}

module _ (s : List ℕ) (soft : Bool) where
  abbrev pub pick_in : Refit → Pick
  pick_in x = pick_of s soft x.rounds x.pending

  -- where nothing is picked, nothing changes
  pub refit_stays : (n : ℕ) (x : Refit) → pick_in x ≡ None → refit_on s soft n x ≡ x
  unfolding refit_on refit
  refit_stays zero x e = refl
  refit_stays (suc n) x e = ap (λ (p : Pick). refit_on s soft n (refit_by x p)) e ∙ refit_stays n x e

  none_pending : (rounds : List Round) (pending : List ℕ) → length pending ≤ 0 → pick_of s soft rounds pending ≡ None
  unfolding pick_from
  none_pending rounds [] h = refl
  none_pending rounds (row ∷ rows) h = absurd (omega arith)

  pub refit_ends : (n : ℕ) (x : Refit) → length x.pending ≤ n → pick_in (refit_on s soft n x) ≡ None
  unfolding refit_on refit
  refit_ends zero x h = none_pending x.rounds x.pending h
  refit_ends (suc n) x h = go (pick_in x) refl (pick_picked s soft x.rounds x.pending) (λ y l. refit_ends n y l)
    where
      go : (p : Pick) → pick_in x ≡ p → Picked s soft x.rounds x.pending p → ((y : Refit) → length y.pending ≤ n → pick_in (refit_on s soft n y) ≡ None) → pick_in (refit_on s soft n (refit_by x p)) ≡ None
      go None e u r = ap pick_in (refit_stays n x e) ∙ e
      go (Some (j, i, k, cost)) e u r = r (refit_by x (Some (j, i, k, cost))) (omega (arith, h, without_length x.pending j u.0))
