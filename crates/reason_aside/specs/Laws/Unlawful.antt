-- On whole-number sheets a reason other than 7 is true of the lone round by the definition of a lawful schedule: such a round does not exist. Assumes nothing.
use Rattle.std.specs.Prelude.{◌≡◌, refl, ℕ, zero, suc, ◌<◌, Bool, true, false, not, ◌&&◌, cond, List, [], ◌∷◌, T, leb, eqb, is_none, get_or}
use Rattle.std.proofs.Common.{sym, ◌∙◌, subst, add-zero, arith, true≢false}
use Rattle.std.proofs.lemmas.Bool.{or_parts, eqb-false}
use Rattle.lists.specs.Count.{count}
use Rattle.lists.specs.Every.{Every}
use Rattle.lists.specs.Laws.Every.{every_of, every_at}
use Rattle.lists.specs.Laws.Permutation.{count_at}
use Rattle.sheet.specs.Fields.{rows_of, method_of}
use Rattle.sheet.specs.Accepted.{Accepted}
use Rattle.sheet.specs.Values.{demand_of, vehicle_of}
use Rattle.sheet.specs.Fleet.{fleet_of}
use Rattle.evaluation.specs.Routed.{Routed}
use Rattle.lawful.specs.Whole.{Whole}
use Rattle.lawful.specs.Lawful.{home_of, lawful, load_n, keeps_capacity, makes_round, alone}
use Rattle.lawful.specs.Laws.Meaning.{feasible_lawful}
use Rattle.multi_depot_offers.specs.Laws.Settled.{depot_row}
use Rattle.reason.specs.Asked.{Lone}
use Rattle.reason.specs.Reason.{last_tried, over_capacity, plain_reason, walked_reason, lone_reason, some_makes, is_nearest, reason_by, reason_of}
use Rattle.reason.specs.Laws.Tried.{last_tried_manned}
use Rattle.reason.specs.Laws.Walked.{walked_fails}
use Rattle.reason_aside.specs.Laws.Fleet.{fleet_known, first_counted}
use Rattle.reason_aside.specs.Laws.Plain.{distance_kept_lem, duration_kept_lem}

module _ (s : List ℕ) (v i : ℕ) (a : Accepted s) (whole : Whole s) (l : Lone s (home_of s v) v i) where
  routed : Routed s (home_of s v) (i ∷ [])
  routed = record { sheet = a; home = l.home; few = omega arith; row = λ k h. only k h }
    where
      only : (k : ℕ) → k < 1 → get_or (i ∷ []) k 0 < rows_of s
      only zero h = l.stop
      only (suc k) h = absurd (omega arith)

  over_unlawful : over_capacity s v i ≡ true → alone s v i ≡ false
  unfolding over_capacity makes_round keeps_capacity load_n vehicle_of
  over_unlawful e =
      let lone : keeps_capacity s v (i ∷ []) ≡ leb (demand_of s i) (vehicle_of s v).capacity = rw (add-zero (demand_of s i)) refl in
      go (lawful s v (i ∷ [])) (keeps_capacity s v (i ∷ [])) (leb (demand_of s i) (vehicle_of s v).capacity) lone e
    where
      go : (a b c : Bool) → b ≡ c → not c ≡ true → a && b ≡ false
      go true b false e n = e
      go false b false e n = refl
      go a b true e n = absurd (true≢false (sym n))

  walked_unlawful : (walked_reason s (home_of s v) v i ≡ 7 → ⊥) → alone s v i ≡ false
  unfolding makes_round
  walked_unlawful h = go (lawful s v (i ∷ [])) refl
    where
      go : (a : Bool) → lawful s v (i ∷ []) ≡ a → a && keeps_capacity s v (i ∷ []) ≡ false
      go true e = absurd (h ((walked_fails s (home_of s v) v i a l).1 (feasible_lawful s v (i ∷ []) whole l.vehicle routed ∙ e)))
      go false e = refl

  -- by plain nearest neighbour's own sums
  plain_unlawful : is_none (vehicle_of s v).rest ≡ true → (plain_reason s (home_of s v) v i ≡ 7 → ⊥) → alone s v i ≡ false
  unfolding makes_round plain_reason
  plain_unlawful n h = go (over_capacity s v i) refl (lawful s v (i ∷ [])) refl
    where
      go : (o : Bool) → over_capacity s v i ≡ o → (a : Bool) → lawful s v (i ∷ []) ≡ a → alone s v i ≡ false
      go true e a f = over_unlawful e
      go false e false f = rw f refl
      go false e true f = let t : T (lawful s v (i ∷ [])) = subst T (sym f) tt in absurd (h (rw (e, distance_kept_lem s v i a whole l n t, duration_kept_lem s v i a whole l n t) refl))

  -- by every other's, and by plain nearest neighbour's on a vehicle with a rest
  asked_unlawful : (cond (not (eqb (method_of s) 0) && over_capacity s v i) 2 (walked_reason s (home_of s v) v i) ≡ 7 → ⊥) → alone s v i ≡ false
  asked_unlawful h = go (not (eqb (method_of s) 0)) (over_capacity s v i) refl h
    where
      go : (m o : Bool) → over_capacity s v i ≡ o → (◌≡◌ {A = ℕ} (cond (m && o) 2 (walked_reason s (home_of s v) v i)) 7 → ⊥) → alone s v i ≡ false
      go true true e h = over_unlawful e
      go true false e h = walked_unlawful h
      go false o e h = walked_unlawful h

  pub reason_unlawful : (lone_reason s (home_of s v) v i ≡ 7 → ⊥) → alone s v i ≡ false
  unfolding lone_reason
  reason_unlawful h = go (eqb (method_of s) 2) (is_none (vehicle_of s v).rest) refl h
    where
      go : (m n : Bool) → is_none (vehicle_of s v).rest ≡ n
          → (◌≡◌ {A = ℕ} (cond (m && n) (plain_reason s (home_of s v) v i) (cond (not (eqb (method_of s) 0) && over_capacity s v i) 2 (walked_reason s (home_of s v) v i))) 7 → ⊥)
          → alone s v i ≡ false
      go true true e h = plain_unlawful e h
      go true false e h = asked_unlawful h
      go false n e h = asked_unlawful h

-- ---- the reason of a stop
module _ (s : List ℕ) (a : Accepted s) (whole : Whole s) (i : ℕ) (row : i < rows_of s) where
  abbrev last : ℕ
  last = last_tried s i

  -- of a vehicle of the depot tried last
  vehicle_unlawful : (v : ℕ) → 0 < count v (fleet_of s last) → (lone_reason s last v i ≡ 7 → ⊥) → alone s v i ≡ false
  unfolding vehicle_of
  vehicle_unlawful v h n =
      let k = fleet_known s last v h in
      let home = depot_row s a i row last (last_tried_manned s a i (omega (arith, k.0))).0 in
      let e : home_of s v ≡ last = k.1 in
      reason_unlawful s v i a whole (record { home = rw e home; vehicle = k.0; stop = row }) (rw e n)

  -- A REASON OTHER THAN 7 means that the first vehicle of the depot tried last has no lawful lone round; where it is 1 that depot has no vehicle
  pub first_unlawful : (v : ℕ) (vs : List ℕ) → fleet_of s (last_tried s i) ≡ v ∷ vs → (reason_of s i ≡ 7 → ⊥) → alone s v i ≡ false
  unfolding reason_of reason_by
  first_unlawful v vs e n = vehicle_unlawful v (first_counted v (fleet_of s last) vs e) (go (is_nearest s && some_makes s last i vs) (rw e at n))
    where
      go : (b : Bool) → (◌≡◌ {A = ℕ} (cond b 7 (lone_reason s last v i)) 7 → ⊥) → lone_reason s last v i ≡ 7 → ⊥
      go true f k = f refl
      go false f k = f k

  -- of both nearest neighbours: that none of its vehicles has
  abbrev Fails : ℕ → Type 0
  Fails v = lone_reason s last v i ≡ 7 → ⊥

  none_makes : (vs : List ℕ) → some_makes s last i vs ≡ false → Every Fails vs
  unfolding some_makes
  none_makes [] e = tt
  none_makes (v ∷ vs) e = let n = or_parts (eqb (lone_reason s last v i) 7) (some_makes s last i vs) e in (eqb-false (lone_reason s last v i) 7 n.0, none_makes vs n.1)

  each_fails : is_nearest s ≡ true → (fleet : List ℕ) → (reason_by s last i fleet ≡ 7 → ⊥) → Every Fails fleet
  unfolding reason_by
  each_fails m [] n = tt
  each_fails m (v ∷ vs) n = go (some_makes s last i vs) refl (rw m at n)
    where
      go : (b : Bool) → some_makes s last i vs ≡ b → (◌≡◌ {A = ℕ} (cond (true && b) 7 (lone_reason s last v i)) 7 → ⊥) → Every Fails (v ∷ vs)
      go true e f = absurd (f refl)
      go false e f = (f, none_makes vs e)

  pub nearest_unlawful : is_nearest s ≡ true → (reason_of s i ≡ 7 → ⊥) → Every (λ v. alone s v i ≡ false) (fleet_of s (last_tried s i))
  unfolding reason_of
  nearest_unlawful m n =
      every_of (λ v. alone s v i ≡ false) 0 (fleet_of s last)
      (λ k h. vehicle_unlawful (get_or (fleet_of s last) k 0) (count_at (fleet_of s last) k h) (every_at Fails 0 (fleet_of s last) k h (each_fails m (fleet_of s last) n)))
