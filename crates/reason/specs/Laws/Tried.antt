-- The depot that a stop is tried at last. Assumes nothing.
use Rattle.std.specs.Prelude.{◌≡◌, refl, ℕ, zero, suc, ◌+◌, ◌^◌, ◌≤◌, ◌<◌, Bool, true, false, ◌&&◌, ◌||◌, cond, List, [], ◌∷◌, leb, ltb, eqb, Float}
use Rattle.std.proofs.Common.{sym, ◌∙◌, arith, true≢false, leb-true, leb-false, le-leb, ltb-false, lt-ltb, eqb-true, eq-eqb}
use Rattle.std.proofs.lemmas.Bool.{eqb-false}
use Rattle.std.specs.Float.Ieee.{lt, eq, le}
use Rattle.std.specs.Float.Ieee.Bits.{is_true}
use Rattle.numbers.specs.Laws.Upto.{Upto}
use Rattle.numbers.specs.Laws.Order.{not_below_le}
use Rattle.lists.specs.Count.{one, count}
use Rattle.lists.specs.Laws.Filter.{those_count}
use Rattle.sheet.specs.Fields.{rows_of, vehicles_of}
use Rattle.sheet.specs.Depots.{depots_of}
use Rattle.sheet.specs.Values.{vehicle_of, distance_of}
use Rattle.sheet.specs.Fleet.{fleet_of}
use Rattle.sheet.specs.Accepted.{Accepted}
use Rattle.sheet.specs.Laws.Finite.{distance_bounded}
use Rattle.multi_depot_offers.specs.ByDepot.{has_any, has_vehicle, is_no_depot, sooner, next_depot}
use Rattle.multi_depot_offers.specs.Laws.Sooner.{sooner_trans, not_itself}
use Rattle.multi_depot_offers.specs.Laws.Settled.{depot_row}
use Rattle.multi_depot_offers.specs.Laws.Choice.{next_nearest, next_none}
use Rattle.reason.specs.Reason.{tried, tried_from, last_tried}

-- a depot with a vehicle, after which none is asked
pub record TriedLast (s : List ℕ) (i d : ℕ) : Type 0 where
  pub depot : d < depots_of s
  pub vehicle : has_vehicle s d ≡ true
  pub last : depots_of s ≤ next_depot s i d

-- ---- a vehicle's depot has one
counted_any : (v : ℕ) (vs : List ℕ) → 0 < count v vs → has_any vs ≡ true
unfolding count
counted_any v [] h = absurd (omega arith)
counted_any v (w ∷ vs) h = refl

manned : (s : List ℕ) (v : ℕ) → v < vehicles_of s → has_vehicle s (vehicle_of s v).depot ≡ true
unfolding has_vehicle fleet_of
manned s v h =
    let d = (vehicle_of s v).depot in
    let e : one (leb 0 v && (ltb v (0 + vehicles_of s) && eqb d d)) ≡ 1 = rw (le-leb 0 v (omega arith), lt-ltb v (0 + vehicles_of s) (omega arith), eq-eqb d d refl) in
    counted_any v (fleet_of s d) (omega (arith, those_count (λ w. eqb (vehicle_of s w).depot d) (vehicles_of s) 0 v))

-- ---- of two depots one is asked sooner
neither : (a b : Bool) → ((a || b) ≡ true → ⊥) → (a ≡ false) × (b ≡ false)
neither true b f = absurd (f refl)
neither false true f = absurd (f refl)
neither false false f = (refl, refl)

level : (a b : ℕ) (x y : Float) → Upto a x → Upto b y → lt x y ≡ false → lt y x ≡ false → eq x y ≡ true
unfolding le
level a b x y u v p q = is_true (eq x y) (rw p at (not_below_le a b x y u v q))

sooner_total : (s : List ℕ) → Accepted s → (c : ℕ) → c < rows_of s → (d e : ℕ) → d < rows_of s → e < rows_of s → (sooner s c d e ≡ true → ⊥) → (sooner s c e d ≡ true → ⊥) → d ≡ e
unfolding sooner
sooner_total s a c row d e h k f g =
    let x = distance_of s d c in
    let y = distance_of s e c in
    let u = distance_bounded s a d c h row in
    let v = distance_bounded s a e c k row in
    let p = neither (lt x y) (eq x y && ltb d e) f in
    let q = neither (lt y x) (eq y x && ltb e d) g in
    let m = ltb-false d e (rw (level (10 ^ 9) (10 ^ 9) x y u v p.0 q.0) at p.1) in
    let n = ltb-false e d (rw (level (10 ^ 9) (10 ^ 9) y x v u q.0 p.0) at q.1) in
    omega arith

-- ---- over the depots seen: all below d
below_more : (P : ℕ → Type 0) (d : ℕ) → ((e : ℕ) → e < d → P e) → P d → (e : ℕ) → e < d + 1 → P e
below_more P d f p e l = pick (eqb e d) refl
  where
    pick : (b : Bool) → eqb e d ≡ b → P e
    pick true q = rw (eqb-true e d q) p
    pick false q = let n = eqb-false e d q in f e (omega arith)

record Seen (s : List ℕ) (i d best : ℕ) : Type 0 where
  none : depots_of s ≤ best → (e : ℕ) → e < d → has_vehicle s e ≡ true → ⊥
  vehicle : best < depots_of s → has_vehicle s best ≡ true
  last : i < rows_of s → best < depots_of s → (e : ℕ) → e < d → has_vehicle s e ≡ true → sooner s i best e ≡ true → ⊥

module _ (s : List ℕ) (a : Accepted s) (i : ℕ) where
  seen_more : (d best : ℕ) → d < depots_of s → Seen s i d best → Seen s i (d + 1) (cond (tried s i best d) d best)
  seen_more d best h k = go (has_vehicle s d) refl (is_no_depot s best) refl (sooner s i best d) refl
    where
      go : (x : Bool) → has_vehicle s d ≡ x → (y : Bool) → is_no_depot s best ≡ y → (z : Bool) → sooner s i best d ≡ z → Seen s i (d + 1) (cond (x && (y || z)) d best)
      go false p y q z r = record {
        none = λ n. below_more _ d (k.none n) (λ t. true≢false (sym t ∙ p));
        vehicle = k.vehicle;
        last = λ w n. below_more _ d (k.last w n) (λ t. absurd (true≢false (sym t ∙ p)));
      }
      go true p true q z r = record {
        none = λ n. absurd (omega arith);
        vehicle = λ n. p;
        last = λ w n. below_more _ d (λ e l t. absurd (k.none (leb-true (depots_of s) best q) e l t)) (λ t. not_itself s a i w d (depot_row s a i w d h));
      }
      go true p false q true r =
          let b = leb-false (depots_of s) best q in
          record {
            none = λ n. absurd (omega arith);
            vehicle = λ n. p;
            last = λ w n. below_more _ d
                (λ e l t u. k.last w b e l t (sooner_trans s a i w best d e (depot_row s a i w best b) (depot_row s a i w d h) (depot_row s a i w e (omega arith)) r u))
                (λ t. not_itself s a i w d (depot_row s a i w d h));
          }
      go true p false q false r =
          let b = leb-false (depots_of s) best q in
          record {
            none = λ n. absurd (omega arith);
            vehicle = k.vehicle;
            last = λ w n. below_more _ d (k.last w n) (λ t u. true≢false (sym u ∙ r));
          }

  seen_from : (n d best : ℕ) → d + n ≤ depots_of s → Seen s i d best → Seen s i (d + n) (tried_from s i n d best)
  unfolding tried_from
  seen_from zero d best h k = let e : d + 0 ≡ d = omega arith in rw e k
  seen_from (suc n) d best h k = let e : d + suc n ≡ d + 1 + n = omega arith in rw e (seen_from n (d + 1) (cond (tried s i best d) d best) (omega arith) (seen_more d best (omega arith) k))

  seen_all : Seen s i (depots_of s) (last_tried s i)
  unfolding last_tried
  seen_all =
      let e : 0 + depots_of s ≡ depots_of s = omega arith in
      rw e at (seen_from (depots_of s) 0 (depots_of s) (omega arith) (record { none = λ n e l. absurd (omega arith); vehicle = λ n. absurd (omega arith); last = λ w n. absurd (omega arith) }))

  tried_depot : (d : ℕ) → d < depots_of s → has_vehicle s d ≡ true → last_tried s i < depots_of s
  tried_depot d h t = go (is_no_depot s (last_tried s i)) refl
    where
      go : (b : Bool) → is_no_depot s (last_tried s i) ≡ b → last_tried s i < depots_of s
      go true e = absurd (seen_all.none (leb-true (depots_of s) (last_tried s i) e) d h t)
      go false e = leb-false (depots_of s) (last_tried s i) e

  -- where the sheet has a vehicle, it is a depot that has one
  pub last_tried_manned : 0 < vehicles_of s → (last_tried s i < depots_of s) × (has_vehicle s (last_tried s i) ≡ true)
  unfolding vehicle_of
  last_tried_manned h = let l = tried_depot (vehicle_of s 0).depot (a.vehicle 0 h).depot (manned s 0 h) in (l, seen_all.vehicle l)

  module _ (row : i < rows_of s) where
    -- THE DEPOT TRIED LAST: no depot with a vehicle is asked after it
    pub last_tried_last : 0 < vehicles_of s → TriedLast s i (last_tried s i)
    last_tried_last h =
        let m = last_tried_manned h in
        record { depot = m.0; vehicle = m.1; last = go (is_no_depot s (next_depot s i (last_tried s i))) refl m.0 }
      where
        go : (b : Bool) → is_no_depot s (next_depot s i (last_tried s i)) ≡ b → last_tried s i < depots_of s → depots_of s ≤ next_depot s i (last_tried s i)
        go true e l = leb-true (depots_of s) (next_depot s i (last_tried s i)) e
        go false e l =
            let n = (next_nearest s a i row (last_tried s i) (leb-false (depots_of s) (next_depot s i (last_tried s i)) e)).admissible in
            absurd (seen_all.last row l (next_depot s i (last_tried s i)) n.depot n.vehicle (n.behind l))

    -- and there is no other such depot
    pub last_tried_only : (d : ℕ) → TriedLast s i d → d ≡ last_tried s i
    last_tried_only d t =
        let l = tried_depot d t.depot t.vehicle in
        sooner_total s a i row d (last_tried s i) (depot_row s a i row d t.depot) (depot_row s a i row (last_tried s i) l)
        (λ e. next_none s a i row d t.last (last_tried s i) (record { depot = l; vehicle = seen_all.vehicle l; behind = λ _. e }))
        (seen_all.last row l d t.depot t.vehicle)
