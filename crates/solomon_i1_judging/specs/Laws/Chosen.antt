-- The insertion chosen is of a stop left, at a place of the round, within capacity, and judged fit. Where none is chosen, no place was. Assumes nothing.
use Rattle.std.specs.Prelude.{◌≡◌, refl, Bool, cond, T, length, Some, None}
use Rattle.std.proofs.Common.{sym, ◌∙◌, subst, zero-lt-suc, zero-add, add-zero}
use Rattle.std.proofs.Math.Path.{ap}
use Prim.Native.Nat.{ℕ, zero, suc, ◌+◌, ◌≤◌, ◌<◌, suc-le-suc}
use native.Mathlib.Omega.{arith}
use Rattle.std.proofs.Math.Bool.{true, false}
use mathlib.Core.List.{List, [], ◌∷◌}
use Rattle.std.proofs.Math.Dec.{eqb}
use Rattle.std.proofs.Math.ListN.{get_or}
use borrow.Author.Tests.{eqb-true, eqb-false}
use Rattle.lists.specs.Every.{Every}
use Rattle.constructive.specs.declared.terms.Terms.{Terms}
use Rattle.insertion.specs.Choice.{Choice}
use Rattle.insertion.specs.Place.{Judged, unfit, costs, judge, wins, better_place, try_places, carries}
use Rattle.solomon_i1_judging.specs.Choice.{try_stop, try_stops, best_of}

-- ---- what is chosen
abbrev pub Fit : Judged → Type 0
Fit unfit = ⊥
Fit (costs cost) = Unit

-- a place of the round where a stop may stand
pub record Place (s : List ℕ) (t : Terms) (route : List ℕ) (row k : ℕ) : Type 0 where
  pub within : k ≤ length route
  pub carried : T (carries s t route row)
  pub fit : Fit (judge s t route row k)

abbrev pub Chosen : List ℕ → Terms → List ℕ → List ℕ → Choice → Type 0
Chosen s t route left None = Unit
Chosen s t route left (Some (j, k, cost)) = (j < length left) × Place s t route (get_or left j 0) k

module _ (s : List ℕ) (t : Terms) (route left : List ℕ) where
  better_chosen : (c : Choice) (j k : ℕ) (x : Judged) → j < length left → (Fit x → Place s t route (get_or left j 0) k) → Chosen s t route left c → Chosen s t route left (better_place c j k x)
  better_chosen c j k unfit h f u = u
  better_chosen c j k (costs cost) h f u = go (wins cost c)
    where
      go : (b : Bool) → Chosen s t route left (cond b (Some (j, k, cost)) c)
      go true = (h, f tt)
      go false = u

  places_chosen : (j : ℕ) → j < length left → T (carries s t route (get_or left j 0)) → (c : Choice) (n k : ℕ) → k + n ≤ suc (length route) → Chosen s t route left c
      → Chosen s t route left (try_places s t route j (get_or left j 0) c n k)
  unfolding try_places
  places_chosen j h l c zero k m u = u
  places_chosen j h l c (suc n) k m u =
      let x = judge s t route (get_or left j 0) k in
      places_chosen j h l (better_place c j k x) n (k + 1) (omega (arith, m))
      (better_chosen c j k x h (λ f. record { within = omega (arith, m); carried = l; fit = f }) u)

  stop_chosen : (j : ℕ) → j < length left → (c : Choice) → Chosen s t route left c → Chosen s t route left (try_stop s t route c j (get_or left j 0))
  stop_chosen j h c u = go (carries s t route (get_or left j 0)) (λ l. l)
    where
      go : (b : Bool) → (T b → T (carries s t route (get_or left j 0))) → Chosen s t route left (cond b (try_places s t route j (get_or left j 0) c (suc (length route)) 0) c)
      go true f = places_chosen j h (f tt) c (suc (length route)) 0 (omega arith) u
      go false f = u

  -- over the stops from place j on
  stops_chosen : (rows : List ℕ) (c : Choice) (j : ℕ) → j + length rows ≤ length left → ((k : ℕ) → k < length rows → get_or rows k 0 ≡ get_or left (j + k) 0) → Chosen s t route left c
      → Chosen s t route left (try_stops s t route c j rows)
  unfolding try_stops
  stops_chosen [] c j h e u = u
  stops_chosen (row ∷ rows) c j h e u =
      let here : row ≡ get_or left j 0 = e 0 (zero-lt-suc (length rows)) ∙ ap (λ (n : ℕ). get_or left n 0) (add-zero j) in
      stops_chosen rows (try_stop s t route c j row) (j + 1) (omega (arith, h))
      (λ k l. e (suc k) (suc-le-suc l) ∙ ap (λ (n : ℕ). get_or left n 0) (let n : j + suc k ≡ j + 1 + k = omega arith in n))
      (subst (λ (i : ℕ). Chosen s t route left (try_stop s t route c j i)) (sym here) (stop_chosen j (omega (arith, h)) c u))

  pub best_chosen : Chosen s t route left (best_of s t route left)
  best_chosen = stops_chosen left None 0 (omega arith) (λ k h. ap (λ (n : ℕ). get_or left n 0) (sym (zero-add k))) tt

-- ---- where nothing is chosen
-- within capacity, the stop is fit at no place of the round
abbrev pub Shut : List ℕ → Terms → List ℕ → ℕ → Type 0
Shut s t route row = T (carries s t route row) → (k : ℕ) → k ≤ length route → judge s t route row k ≡ unfit

better_none : (c : Choice) (j k : ℕ) (x : Judged) → better_place c j k x ≡ None → (c ≡ None) × (x ≡ unfit)
better_none None j k unfit e = (refl, refl)
better_none None j k (costs cost) e = (cc, cc)
better_none (Some (i, l, least)) j k unfit e = (cc, cc)
better_none (Some (i, l, least)) j k (costs cost) e = go (wins cost (Some (i, l, least))) e
  where
    go : (b : Bool) → cond {A = Choice} b (Some (j, k, cost)) (Some (i, l, least)) ≡ None → ◌≡◌ {A = Choice} (Some (i, l, least)) None × (costs cost ≡ unfit)
    go true e = (cc, cc)
    go false e = (cc, cc)

module _ (s : List ℕ) (t : Terms) (route : List ℕ) where
  places_none : (j row : ℕ) (c : Choice) (n k : ℕ) → try_places s t route j row c n k ≡ None → (c ≡ None) × ((i : ℕ) → k ≤ i → i < k + n → judge s t route row i ≡ unfit)
  unfolding try_places
  places_none j row c zero k e = (e, λ i h l. absurd (omega (arith, h, l)))
  places_none j row c (suc n) k e =
      let r = places_none j row (better_place c j k (judge s t route row k)) n (k + 1) e in
      let b = better_none c j k (judge s t route row k) r.0 in
      (b.0, λ i h l. go i h l b.1 r.1 (eqb i k) refl)
    where
      go : (i : ℕ) → k ≤ i → i < k + suc n → judge s t route row k ≡ unfit → ((i : ℕ) → k + 1 ≤ i → i < k + 1 + n → judge s t route row i ≡ unfit)
          → (b : Bool) → eqb i k ≡ b → judge s t route row i ≡ unfit
      go i h l here rest true e = ap (judge s t route row) (eqb-true i k e) ∙ here
      go i h l here rest false e = let d = eqb-false i k e in rest i (omega (arith, h, d)) (omega (arith, l))

  stop_none : (c : Choice) (j row : ℕ) → try_stop s t route c j row ≡ None → (c ≡ None) × Shut s t route row
  stop_none c j row e = go (carries s t route row) e
    where
      go : (b : Bool) → cond b (try_places s t route j row c (suc (length route)) 0) c ≡ None → (c ≡ None) × (T b → (k : ℕ) → k ≤ length route → judge s t route row k ≡ unfit)
      go true e =
          let r = places_none j row c (suc (length route)) 0 e in
          (r.0, λ l k h. r.1 k (omega arith) (omega (arith, h)))
      go false e = (e, λ l. absurd l)

  stops_none : (rows : List ℕ) (c : Choice) (j : ℕ) → try_stops s t route c j rows ≡ None → (c ≡ None) × Every (Shut s t route) rows
  unfolding try_stops
  stops_none [] c j e = (e, tt)
  stops_none (row ∷ rows) c j e =
      let r = stops_none rows (try_stop s t route c j row) (j + 1) e in
      let h = stop_none c j row r.0 in
      (h.0, (h.1, r.1))

  pub none_shut : (left : List ℕ) → best_of s t route left ≡ None → Every (Shut s t route) left
  none_shut left e = (stops_none left None 0 e).1
