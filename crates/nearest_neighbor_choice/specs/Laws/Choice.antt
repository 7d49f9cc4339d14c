-- Which stop is taken next: of those offered the one with the least key, the first of equals. Assumes nothing.
use Rattle.std.specs.Prelude.{◌≡◌, refl, ◌⊎◌, Bool, true, false, not, ◌&&◌, cond, T, eqb, Float, Some, None}
use Rattle.std.proofs.Math.Path.{sym, ap, subst}
use Rattle.std.proofs.Common.{◌∙◌, zero-lt-suc, zero-add, add-zero, inl, inr, eqb-true}
use Prim.Native.Nat.{ℕ, suc, ◌+◌, ◌^◌, ◌<◌, suc-le-suc}
use native.Mathlib.Omega.{arith}
use mathlib.Core.List.{List, [], ◌∷◌}
use Rattle.std.specs.Float.Ieee.{lt, is_nan}
use Rattle.std.proofs.Math.ListN.{length, get_or}
use Rattle.std.proofs.lemmas.Bool.{eqb-false}
use Rattle.lists.specs.Every.{Every}
use Rattle.lists.specs.Laws.Every.{every_at}
use Rattle.numbers.specs.Laws.Upto.{no_nan}
use Rattle.sorting.specs.Laws.Least.{FirstLeast, least_stays, least_only, least_falls}
use Rattle.sheet.specs.Fields.{rows_of}
use Rattle.sheet.specs.Accepted.{Accepted}
use Rattle.sheet.specs.Values.{stop_of, distance_of, time_of}
use Rattle.sheet.specs.declared.vehicle.Vehicle.{Vehicle}
use Rattle.sheet.specs.Laws.Finite.{distance_bounded}
use Rattle.evaluation_clock.specs.Sums.{◌⊕◌}
use Rattle.evaluation.specs.declared.limits.RouteLimits.{RouteLimits}
use Rattle.nearest_neighbor_choice.specs.StopChoice.{StopChoice}
use Rattle.nearest_neighbor_choice.specs.Choice.{Offer, out, key, better_stop, choose, Trip}
use Rattle.nearest_neighbor_choice.specs.Offers.{trip_carries, allows, offer_if, there_and_home, nearest_offer}

-- a stop among the first n of those left, by its place, and the key that it is offered with
pub record Offered (offer : ℕ → Offer) (left : List ℕ) (n i : ℕ) (x : Float) : Type 0 where
  pub within : i < n
  pub offered : offer (get_or left i 0) ≡ key x

-- none of the first n is offered, or the choice is the first least of them
abbrev pub LeastOf : (ℕ → Offer) → List ℕ → ℕ → StopChoice → Type 0
LeastOf offer left n None = (i : ℕ) → i < n → offer (get_or left i 0) ≡ out
LeastOf offer left n (Some (j, x)) = FirstLeast ℕ (Offered offer left n) ◌<◌ j x

-- no key is a NaN
abbrev pub KeysNumbers : (ℕ → Offer) → List ℕ → Type 0
KeysNumbers offer left = (i : ℕ) (x : Float) → i < length left → offer (get_or left i 0) ≡ key x → T (not (is_nan x))

key_not_out : (o : Offer) (x : Float) → o ≡ out → o ≡ key x → ⊥
key_not_out o x e f = let z : ◌≡◌ {A = ℕ} 0 1 = cc in omega arith

module _ (offer : ℕ → Offer) (left : List ℕ) (numbers : KeysNumbers offer left) where
  -- one more stop, at place n
  module _ (n : ℕ) (h : n < length left) where
    abbrev here : Offer
    here = offer (get_or left n 0)

    into : (i : ℕ) (x : Float) → Offered offer left n i x → Offered offer left (n + 1) i x
    into i x k = record { within = let l = k.within in omega arith; offered = k.offered }

    parted : (i : ℕ) (x : Float) → Offered offer left (n + 1) i x → Offered offer left n i x ⊎ ((i ≡ n) × (here ≡ key x))
    parted i x k = go (eqb i n) refl
      where
        go : (b : Bool) → eqb i n ≡ b → Offered offer left n i x ⊎ ((i ≡ n) × (here ≡ key x))
        go true e = let q = eqb-true i n e in inr (q, subst (λ (i : ℕ). offer (get_or left i 0) ≡ key x) q k.offered)
        go false e = let d = eqb-false i n e in let l = k.within in inl (record { within = omega arith; offered = k.offered })

    none_more : ((i : ℕ) → i < n → offer (get_or left i 0) ≡ out) → here ≡ out → (i : ℕ) → i < n + 1 → offer (get_or left i 0) ≡ out
    none_more none e i l = go (eqb i n) refl
      where
        go : (b : Bool) → eqb i n ≡ b → offer (get_or left i 0) ≡ out
        go true q = rw (eqb-true i n q) e
        go false q = let d = eqb-false i n q in none i (omega arith)

    stays : (j : ℕ) (x : Float) → FirstLeast ℕ (Offered offer left n) ◌<◌ j x → ((y : Float) → here ≡ key y → lt y x ≡ false) → FirstLeast ℕ (Offered offer left (n + 1)) ◌<◌ j x
    stays j x r more =
        least_stays ℕ (Offered offer left n) (Offered offer left (n + 1)) ◌<◌ n j x r (into j x) (λ l. let k = r.admissible.within in omega arith)
        (λ i y k. go i y (parted i y k))
      where
        go : (i : ℕ) (y : Float) → Offered offer left n i y ⊎ ((i ≡ n) × (here ≡ key y)) → Offered offer left n i y ⊎ ((i ≡ n) × (lt y x ≡ false))
        go i y (inl k) = inl k
        go i y (inr e) = inr (e.0, more y e.1)

    module _ (z : Float) (e : here ≡ key z) where
      itself : Offered offer left (n + 1) n z
      itself = record { within = omega arith; offered = e }

      alike : (i : ℕ) (y : Float) → Offered offer left (n + 1) i y → Offered offer left n i y ⊎ ((i ≡ n) × (y ≡ z))
      alike i y k = go (parted i y k)
        where
          go : Offered offer left n i y ⊎ ((i ≡ n) × (here ≡ key y)) → Offered offer left n i y ⊎ ((i ≡ n) × (y ≡ z))
          go (inl k) = inl k
          go (inr q) = let f = q.1 in inr (q.0, cc)

      least_better : (c : StopChoice) → LeastOf offer left n c → LeastOf offer left (n + 1) (better_stop c n (key z))
      least_better None none = least_only ℕ (Offered offer left n) (Offered offer left (n + 1)) ◌<◌ n z itself (λ l. omega arith) alike (λ i y k. key_not_out (offer (get_or left i 0)) y (none i k.within) k.offered)
      least_better (Some (j, x)) r = go (lt z x) refl
        where
          go : (b : Bool) → lt z x ≡ b → LeastOf offer left (n + 1) (cond b (Some (n, z)) (Some (j, x)))
          go true l =
              least_falls ℕ (Offered offer left n) (Offered offer left (n + 1)) ◌<◌ n z itself (λ l. omega arith) alike j x r
              (λ i y k. numbers i y (let m = k.within in omega arith) k.offered) l
          go false l = stays j x r (λ y q. let same : y ≡ z = cc in rw same l)

    -- better_stop, whatever is offered
    least_more : (o : Offer) → here ≡ o → (c : StopChoice) → LeastOf offer left n c → LeastOf offer left (n + 1) (better_stop c n o)
    least_more (key z) e c r = least_better z e c r
    least_more out e None none = none_more none e
    least_more out e (Some (j, x)) r = stays j x r (λ y q. absurd (key_not_out here y e q))

  -- over the stops from place n on
  least_from_lem : (rows : List ℕ) (c : StopChoice) (n : ℕ) → n + length rows ≡ length left → ((k : ℕ) → k < length rows → get_or rows k 0 ≡ get_or left (n + k) 0) → LeastOf offer left n c
      → LeastOf offer left (length left) (choose offer c n rows)
  unfolding choose
  least_from_lem [] c n h e r = let all : n ≡ length left = omega arith in subst (λ (m : ℕ). LeastOf offer left m c) all r
  least_from_lem (row ∷ rows) c n h e r =
      let here : get_or left n 0 ≡ row = sym (e 0 (zero-lt-suc (length rows)) ∙ ap (λ (m : ℕ). get_or left m 0) (add-zero n)) in
      least_from_lem rows (better_stop c n (offer row)) (n + 1) (omega arith)
      (λ k l. e (suc k) (suc-le-suc l) ∙ ap (λ (m : ℕ). get_or left m 0) (let m : n + suc k ≡ n + 1 + k = omega arith in m))
      (least_more n (omega arith) (offer row) (ap offer here) c r)

  -- THE CHOICE, whatever is offered of a stop
  pub choose_least : LeastOf offer left (length left) (choose offer None 0 left)
  choose_least = least_from_lem left None 0 (omega arith) (λ k h. ap (λ (n : ℕ). get_or left n 0) (sym (zero-add k))) (λ i l. absurd (omega arith))

-- ---- the nearest neighbour: its keys are distances of the sheet
key_is : (t : Bool) (k x : Float) → offer_if t k ≡ key x → k ≡ x
key_is true k x e = cc
key_is false k x e = absurd (key_not_out out x refl e)

pub nearest_least : (s : List ℕ) (depot : ℕ) (v : Vehicle) (limits : RouteLimits) (trip : Trip) (left : List ℕ) → Accepted s → trip.current < rows_of s → Every (λ (i : ℕ). i < rows_of s) left
    → LeastOf (nearest_offer s depot v limits trip) left (length left) (choose (nearest_offer s depot v limits trip) None 0 left)
unfolding nearest_offer
nearest_least s depot v limits trip left fine here rows =
    choose_least (nearest_offer s depot v limits trip) left
    (λ i x h e.
    let row = get_or left i 0 in
    let d = distance_of s trip.current row in
    let fits = trip_carries s v trip row && allows s depot limits limits.rest trip row (there_and_home s depot trip row) (trip.clock ⊕ time_of s trip.current row ⊕ (stop_of s row).service ⊕ time_of s row depot) in
    subst (λ (x : Float). T (not (is_nan x))) (key_is fits d x e) (no_nan (10 ^ 9) d (distance_bounded s fine trip.current row here (every_at (λ (i : ℕ). i < rows_of s) 0 left i h rows))))
