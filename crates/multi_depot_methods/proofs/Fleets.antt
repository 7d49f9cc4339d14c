-- A depot's vehicles in their table, and what each method makes with them. Assumes nothing.
use mathlib.Core.Path.{◌≡◌, refl, sym, ap, ◌∙◌, subst}
use Prim.Native.Nat.{ℕ, ◌+◌, ◌-◌, ◌≤◌, ◌<◌}
use native.Mathlib.Nat.{add-zero}
use native.Mathlib.Omega.{arith}
use mathlib.Core.List.{List, [], ◌∷◌}
use mathlib.Core.Logic.{◌⊎◌, inl, inr}
use lib.Dec.{eqb}
use lib.ListN.{length, get_or, take, replicate, length-replicate}
use lib.Seq.{get_or-take}
use borrow.Author.Tests.{eq-eqb, ne_eqb}
use Rattle.lists.specs.Laws.Filter.{those_at}
use Rattle.wire.specs.Bytes.{write}
use Rattle.wire.specs.Laws.Bytes.{length_write, take_write}
use Rattle.wire.specs.Laws.Overwrite.{write_same}
use Rattle.sheet.specs.Fields.{vehicles_of, method_of, most_vehicles}
use Rattle.sheet.specs.declared.method.Method.{Method}
use Rattle.sheet.specs.declared.method.Method.TheVariants.{Savings, Insertion, NearestNeighbor, NearestNeighborTw, Sweep}
use Rattle.sheet.specs.Method.{code_of}
use Rattle.sheet.specs.Values.{vehicle_of}
use Rattle.sheet.specs.Fleet.{fleet_of}
use Rattle.constructive.specs.declared.tables.Filled.{Filled}
use Rattle.constructive.specs.Outcome.{chains}
use Rattle.constructive.specs.Members.{part, Fleet}
use Rattle.constructive.specs.Stored.{ends_from, vehicles_from, routed_in, filled_by, Stored}
use Rattle.nearest_neighbor.specs.Nearest.{nearest_neighbor, nearest_neighbor_tw}
use Rattle.clarke_wright_savings.specs.Savings.{clarke_wright}
use Rattle.solomon_i1.specs.Insertion.{solomon_i1}
use Rattle.sweep.specs.Sweep.{sweep}
use Rattle.multi_depot_offers.specs.ByDepot.{with_vehicle, with_first, construct_of}
use Rattle.multi_depot_offers.specs.Promises.{Ready, construct_at}
use Rattle.multi_depot_offers.proofs.Manning.{fleet_small}

-- ---- the vehicles
fleet_at : (s : List ℕ) (depot : ℕ) → Fleet s (fleet_of s depot)
unfolding fleet_of
fleet_at s depot k h = let q = those_at (λ v. eqb (vehicle_of s v).depot depot) (vehicles_of s) 0 k h in omega arith

first_of : (s : List ℕ) (d : ℕ) (members fleet : List ℕ) → (length fleet ≡ 0 → ⊥) → with_first s d members fleet ≡ with_vehicle s d members (get_or fleet 0 0)
first_of s d members [] h = absurd (h refl)
first_of s d members (v ∷ fleet) h = refl

none_of : (s : List ℕ) (d : ℕ) (members fleet : List ℕ) → length fleet ≡ 0 → with_first s d members fleet ≡ record { rounds = []; aside = members }
none_of s d members [] e = refl
none_of s d members (v ∷ fleet) e = absurd (omega arith)

-- ---- a method that uses the first vehicle alone is neither nearest neighbour
module _ {m : Method} where
  pub not_nearest : (m ≡ Savings) ⊎ (m ≡ Insertion) ⊎ (m ≡ Sweep) → code_of m ≡ 2 → ⊥
  not_nearest (inl e) q = omega (arith, sym (ap code_of e) ∙ q)
  not_nearest (inr (inl e)) q = omega (arith, sym (ap code_of e) ∙ q)
  not_nearest (inr (inr e)) q = omega (arith, sym (ap code_of e) ∙ q)

  pub not_window : (m ≡ Savings) ⊎ (m ≡ Insertion) ⊎ (m ≡ Sweep) → code_of m ≡ 3 → ⊥
  not_window (inl e) q = omega (arith, sym (ap code_of e) ∙ q)
  not_window (inr (inl e)) q = omega (arith, sym (ap code_of e) ∙ q)
  not_window (inr (inr e)) q = omega (arith, sym (ap code_of e) ∙ q)

-- ---- one vehicle, by the method
module _ (s : List ℕ) (d : ℕ) (members : List ℕ) (v : ℕ) where
  pub savings_so : method_of s ≡ 0 → with_vehicle s d members v ≡ clarke_wright s d v members
  unfolding with_vehicle
  savings_so e = rw (eq-eqb (method_of s) 0 e)

  pub insertion_so : method_of s ≡ 1 → with_vehicle s d members v ≡ solomon_i1 s d v members
  unfolding with_vehicle
  insertion_so e = rw (ne_eqb (method_of s) 0 (λ q. omega (arith, e, q)), eq-eqb (method_of s) 1 e)

  others_so : 2 ≤ method_of s → with_vehicle s d members v ≡ sweep s d v members
  unfolding with_vehicle
  others_so h = rw (ne_eqb (method_of s) 0 (λ q. omega (arith, h, q)), ne_eqb (method_of s) 1 (λ q. omega (arith, h, q)))

  pub sweep_so : {m : Method} → code_of m ≡ method_of s → (m ≡ NearestNeighbor) ⊎ (m ≡ NearestNeighborTw) ⊎ (m ≡ Sweep) → with_vehicle s d members v ≡ sweep s d v members
  sweep_so told (inl e) = others_so (omega (arith, told, ap code_of e))
  sweep_so told (inr (inl e)) = others_so (omega (arith, told, ap code_of e))
  sweep_so told (inr (inr e)) = others_so (omega (arith, told, ap code_of e))

-- ---- their table
module _ {s : List ℕ} {depot : ℕ} {stops ends vehicles : List ℕ} {f : Filled} {total : ℕ} (ready : Ready s depot stops ends vehicles f total)
    {fleet : List ℕ} {n : ℕ} (counted : n ≡ length (fleet_of s depot)) (written : fleet ≡ write (replicate most_vehicles 0) 0 (fleet_of s depot)) where
  fits : 0 + length (fleet_of s depot) ≤ length (replicate {A = ℕ} most_vehicles 0)
  fits = omega (arith, fleet_small s depot, ready.members.routed.sheet.sized.vehicles, length-replicate {A = ℕ} most_vehicles 0)

  pub few : n ≤ length fleet
  few = omega (arith, fits, ap length written, length_write (replicate most_vehicles 0) 0 (fleet_of s depot) fits)

  hers : take (n - 0) fleet ≡ fleet_of s depot
  hers =
      let m : n - 0 ≡ 0 + length (fleet_of s depot) = omega arith in
      rw (m, written) (take_write (replicate most_vehicles 0) 0 (fleet_of s depot) fits)

  pub known : Fleet s (take (n - 0) fleet)
  known = subst (Fleet s) (sym hers) (fleet_at s depot)

  front : (n ≡ 0 → ⊥) → get_or fleet 0 0 ≡ get_or (fleet_of s depot) 0 0
  front some = sym (get_or-take (n - 0) fleet 0 0 (omega (arith, some))) ∙ ap (λ (l : List ℕ). get_or l 0 0) hers

  pub first_known : (n ≡ 0 → ⊥) → get_or fleet 0 0 < vehicles_of s
  first_known some = rw (front some) (fleet_at s depot 0 (omega (arith, some, counted)))

  pub first_taken : (n ≡ 0 → ⊥) → get_or (take (n - 0) fleet) 0 0 < vehicles_of s
  first_taken some = rw hers (fleet_at s depot 0 (omega (arith, some, counted)))

  -- ---- the methods
  abbrev members : List ℕ
  members = part stops f.routed total

  module _ {method : ℕ} (told : method ≡ method_of s) where
    pub nearest_so : method ≡ 2 → construct_at s depot members ≡ nearest_neighbor s depot members (take (n - 0) fleet)
    unfolding construct_of
    nearest_so e = rw (hers, eq-eqb (method_of s) 2 (sym told ∙ e))

    pub window_so : method ≡ 3 → construct_at s depot members ≡ nearest_neighbor_tw s depot members (take (n - 0) fleet)
    unfolding construct_of
    window_so e = rw (hers, ne_eqb (method_of s) 2 (λ q. omega (arith, told, e, q)), eq-eqb (method_of s) 3 (sym told ∙ e))

    -- a method that uses the first vehicle alone
    module _ (not-nearest : method ≡ 2 → ⊥) (not-window : method ≡ 3 → ⊥) where
      first : construct_at s depot members ≡ with_first s depot members (fleet_of s depot)
      unfolding construct_of
      first = rw (ne_eqb (method_of s) 2 (λ q. not-nearest (told ∙ q)), ne_eqb (method_of s) 3 (λ q. not-window (told ∙ q)))

      module _ (none : n ≡ 0) where
        alone : construct_at s depot members ≡ record { rounds = []; aside = members }
        alone = first ∙ none_of s depot members (fleet_of s depot) (omega arith)

        none_filled : f ≡ filled_by f (construct_at s depot members).rounds
        unfolding routed_in
        none_filled = rw (alone, add-zero f.rounds, add-zero f.routed)

        none_laid : Stored stops ends vehicles f (construct_at s depot members) stops ends vehicles
        unfolding chains ends_from vehicles_from
        none_laid =
            let m = ready.members in
            let r = ready.room in
            rw alone (record {
              stopped = sym (write_same stops f.routed (total - f.routed) (omega (arith, m.within, m.from)));
              ended = sym (write_same ends f.rounds 0 (omega (arith, r.rounds, r.ended, m.from)));
              driven = sym (write_same vehicles f.rounds 0 (omega (arith, r.rounds, r.driven, m.from)));
            })

        pub none_so : (f ≡ filled_by f (construct_at s depot members).rounds) × Stored stops ends vehicles f (construct_at s depot members) stops ends vehicles
        none_so = (none_filled, none_laid)

      pub with_some : (n ≡ 0 → ⊥) → construct_at s depot members ≡ with_vehicle s depot members (get_or fleet 0 0)
      with_some some = first ∙ first_of s depot members (fleet_of s depot) (λ e. some (counted ∙ e)) ∙ ap (with_vehicle s depot members) (sym (front some))

      pub with_taken : (n ≡ 0 → ⊥) → construct_at s depot members ≡ with_vehicle s depot members (get_or (take (n - 0) fleet) 0 0)
      with_taken some = first ∙ first_of s depot members (fleet_of s depot) (λ e. some (counted ∙ e)) ∙ ap (λ (l : List ℕ). with_vehicle s depot members (get_or l 0 0)) (sym hers)
