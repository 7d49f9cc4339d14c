-- A slot that takes over the stops of another, in the tables. Assumes nothing.
use mathlib.Core.Path.{◌≡◌, refl, sym, ap, ◌∙◌}
use Prim.Native.Nat.{ℕ, zero, suc, ◌+◌, ◌*◌, ◌≤◌, ◌<◌}
use native.Mathlib.Nat.{le_of_suc-le-suc, not-suc-le-zero, add-zero}
use native.Mathlib.Omega.{arith}
use mathlib.Core.Bool.{Bool, true, false, cond}
use mathlib.Core.List.{List, [], ◌∷◌}
use lib.Dec.{ltb, eqb}
use lib.ListN.{length, get_or, set, take, drop, length-take, length-drop, length-set}
use lib.Seq.{get_or-set_same, get_or-set_other, get_or-take, get_or-drop, ext_get_or}
use borrow.Author.Tests.{lt-ltb, ltb-true, ltb-false, eqb-true, eqb-false}
use Rattle.lists.specs.Count.{count}
use Rattle.lists.specs.Every.{Every}
use Rattle.lists.specs.Laws.Every.{every_at}
use Rattle.wire.specs.Bytes.{write}
use Rattle.wire.specs.Laws.Bytes.{length_write, byte_before, byte_after}
use Rattle.wire.specs.Laws.Overwrite.{part_write}
use Rattle.sheet.specs.Fields.{rows_of}
use Rattle.constructive.specs.Load.{load_of}
use Rattle.clarke_wright_savings.specs.Savings.{route_at, slot_of, joined, after_merge}
use Rattle.clarke_wright_savings.specs.Routes.{Slots, count_in_routes}
use Rattle.clarke_wright_savings.specs.Laws.Joined.{JoinedStops, every_set}
use Rattle.clarke_wright_savings.specs.Laws.Permutation.{counted_joined}
use Rattle.clarke_wright_slots.specs.Laws.HowMany.{stops_joined}
use Rattle.clarke_wright_slots.specs.Slots.{slot_at, slots_in, routed_stops, Slotted, SlotTaken}
use Rattle.clarke_wright_slots.specs.Laws.Slots.{length_slots, slots_at, routes_same, route_few}

-- ---- two places of a list set
module _ {A : Type 0} (l : List A) (into from : ℕ) (v w : A) where
  both_long : length (set (set l into v) from w) ≡ length l
  both_long = length-set (set l into v) from w ∙ length-set l into v

  at_from : (d : A) → from < length l → get_or (set (set l into v) from w) from d ≡ w
  at_from d h = get_or-set_same (set l into v) from w d (omega (arith, length-set l into v, h))

  at_into : (d : A) → (into ≡ from → ⊥) → into < length l → get_or (set (set l into v) from w) into d ≡ v
  at_into d differ h = get_or-set_other (set l into v) from into w d differ ∙ get_or-set_same l into v d h

  at_other : (d : A) (k : ℕ) → (k ≡ into → ⊥) → (k ≡ from → ⊥) → get_or (set (set l into v) from w) k d ≡ get_or l k d
  at_other d k p q = get_or-set_other (set l into v) from k w d q ∙ get_or-set_other l into k v d p

-- what holds of the slot that takes, of the one that is taken, and of every other
each_slot : (P : ℕ → Type 0) (into from : ℕ) → P into → P from → ((k : ℕ) → (k ≡ into → ⊥) → (k ≡ from → ⊥) → P k) → (k : ℕ) → P k
each_slot P into from x y f k = go (eqb k into) refl (eqb k from) refl
  where
    go : (p : Bool) → eqb k into ≡ p → (q : Bool) → eqb k from ≡ q → P k
    go true e q f' = rw (eqb-true k into e) x
    go false e true g = rw (eqb-true k from g) y
    go false e false g = f k (eqb-false k into e) (eqb-false k from g)

-- ---- the slot of a row
slot_same : (x : ℕ) (rs qs : List (List ℕ)) → length rs ≡ length qs → ((k : ℕ) → count x (route_at rs k) ≡ count x (route_at qs k)) → slot_of x rs ≡ slot_of x qs
unfolding slot_of
slot_same x [] [] e f = refl
slot_same x [] (q ∷ qs) e f = absurd (omega (arith, e))
slot_same x (r ∷ rs) [] e f = absurd (omega (arith, e))
slot_same x (r ∷ rs) (q ∷ qs) e f = rw (f 0, slot_same x rs qs (omega (arith, e)) (λ k. f (suc k)))

counted_at : (x : ℕ) (rs : List (List ℕ)) (k : ℕ) → k < length rs → count x (route_at rs k) ≤ count_in_routes x rs
unfolding count_in_routes
counted_at x [] k h = absurd (not-suc-le-zero h)
counted_at x (r ∷ rs) zero h = omega arith
counted_at x (r ∷ rs) (suc k) h = let l = counted_at x rs k (le_of_suc-le-suc h) in omega arith

pub slot_once : (x : ℕ) (rs : List (List ℕ)) (k : ℕ) → k < length rs → count_in_routes x rs ≤ 1 → 0 < count x (route_at rs k) → slot_of x rs ≡ k
unfolding slot_of count_in_routes
slot_once x [] k h o c = absurd (not-suc-le-zero h)
slot_once x (r ∷ rs) zero h o c = rw (lt-ltb 0 (count x r) c)
slot_once x (r ∷ rs) (suc k) h o c = let l = counted_at x rs k (le_of_suc-le-suc h) in
    let none : count x r ≡ 0 = omega arith in
    rw none (ap suc (slot_once x rs k (le_of_suc-le-suc h) (omega arith) c))

-- ---- a part of a list that a write does not reach
apart_same : (s : List ℕ) (at : ℕ) (xs : List ℕ) → at + length xs ≤ length s → (start n : ℕ) → ((i : ℕ) → i < n → get_or (write s at xs) (start + i) 0 ≡ get_or s (start + i) 0)
    → take n (drop start (write s at xs)) ≡ take n (drop start s)
apart_same s at xs room start n f = ext_get_or 0 (take n (drop start (write s at xs))) (take n (drop start s)) long (λ i h. same i (omega (arith, h, length-take n (drop start (write s at xs)))))
  where
    long : length (take n (drop start (write s at xs))) ≡ length (take n (drop start s))
    long = simp (length-take, length-drop, length_write s at xs room)

    same : (i : ℕ) → i < n → get_or (take n (drop start (write s at xs))) i 0 ≡ get_or (take n (drop start s)) i 0
    same i h =
        get_or-take n (drop start (write s at xs)) i 0 h
        ∙ get_or-drop start (write s at xs) i 0
        ∙ f i h
        ∙ sym (get_or-drop start s i 0)
        ∙ sym (get_or-take n (drop start s) i 0 h)

-- the slots are 101 places apart
other_same : (cells : List ℕ) (into : ℕ) (xs : List ℕ) → into * 101 + length xs ≤ length cells → length xs ≤ 101 → (k n : ℕ) → n ≤ 101 → (k ≡ into → ⊥)
    → take n (drop (k * 101) (write cells (into * 101) xs)) ≡ take n (drop (k * 101) cells)
other_same cells into xs room h k n l p = apart_same cells (into * 101) xs room (k * 101) n (λ i u. go i u (ltb k into) refl)
  where
    go : (i : ℕ) → i < n → (b : Bool) → ltb k into ≡ b → get_or (write cells (into * 101) xs) (k * 101 + i) 0 ≡ get_or cells (k * 101 + i) 0
    go i u true e = byte_before cells (into * 101) xs room (k * 101 + i) (let q = ltb-true k into e in omega arith)
    go i u false e = byte_after cells (into * 101) xs room (k * 101 + i) (let q = ltb-false k into e in omega arith)

-- a table of what the rounds are, slot by slot
table_same : (f : List ℕ → ℕ) → f [] ≡ 0 → (n : ℕ) (routes : List (List ℕ)) (table : List ℕ) → length routes ≡ n → n ≤ length table → (into from : ℕ) (stops : List ℕ) → Slots routes into from
    → ((k : ℕ) → k < n → get_or table k 0 ≡ f (route_at routes k)) → (v : ℕ) → v ≡ f stops
    → (k : ℕ) → k < n → get_or (set (set table into v) from 0) k 0 ≡ f (route_at (after_merge routes (joined into from stops)) k)
table_same f z n routes table e room into from stops u g v w = each_slot (λ (k : ℕ). k < n → get_or (set (set table into v) from 0) k 0 ≡ f (route_at (after_merge routes (joined into from stops)) k)) into from
    (λ h. at_into table into from v 0 0 u.differ (omega arith) ∙ w ∙ ap f (sym (at_into routes into from stops [] [] u.differ u.into)))
    (λ h. at_from table into from v 0 0 (omega arith) ∙ sym z ∙ ap f (sym (at_from routes into from stops [] [] u.from)))
    (λ k p q h. at_other table into from v 0 0 k p q ∙ g k h ∙ ap f (sym (at_other routes into from stops [] [] k p q)))

module _ (s : List ℕ) (n : ℕ) (cells lens loads slots : List ℕ) (g : Slotted s n cells lens loads slots) (into from : ℕ) (stops : List ℕ) (u : Slots (slots_in n cells lens) into from)
    (k : JoinedStops s (λ (i : ℕ). i < rows_of s) (route_at (slots_in n cells lens) into) (route_at (slots_in n cells lens) from) stops) where
  abbrev routes : List (List ℕ)
  routes = slots_in n cells lens

  abbrev routes' : List (List ℕ)
  routes' = after_merge routes (joined into from stops)

  many : length routes ≡ n
  many = length_slots n cells lens

  many' : length routes' ≡ n
  many' = both_long routes into from stops [] ∙ many

  into_at : route_at routes' into ≡ stops
  into_at = at_into routes into from stops [] [] u.differ u.into

  from_at : route_at routes' from ≡ []
  from_at = at_from routes into from stops [] [] u.from

  other_at : (i : ℕ) → (i ≡ into → ⊥) → (i ≡ from → ⊥) → route_at routes' i ≡ route_at routes i
  other_at i p q = at_other routes into from stops [] [] i p q

  all_stops_lem : routed_stops routes' ≡ routed_stops routes
  all_stops_lem = stops_joined routes into from stops u k.long

  few : length stops ≤ 101
  few = omega (arith, ap length into_at, route_few routes' into, all_stops_lem, g.routes.few)

  once : (x : ℕ) → count_in_routes x routes' ≤ 1
  once x = omega (arith, counted_joined x routes into from stops u (k.counted x), g.routes.once x)

  rows : Every (Every (λ (i : ℕ). i < rows_of s)) routes'
  rows =
      let Q = Every (λ (i : ℕ). i < rows_of s) in
      every_set Q (set routes into stops) from [] tt
      (every_set Q routes into stops (k.every (every_at Q [] routes into u.into g.routes.rows) (every_at Q [] routes from u.from g.routes.rows)) g.routes.rows)

  -- a row of the round that is taken has the slot that takes it, every other its own
  slot_after : (x : ℕ) → cond (ltb 0 (count x (route_at routes from))) into (slot_of x routes) ≡ slot_of x routes'
  unfolding count
  slot_after x = go (ltb 0 (count x (route_at routes from))) refl
    where
      go : (b : Bool) → ltb 0 (count x (route_at routes from)) ≡ b → cond b into (slot_of x routes) ≡ slot_of x routes'
      go true e =
          sym (slot_once x routes' into (omega (arith, many, many', u.into)) (once x) (omega (arith, ap (count x) into_at, k.counted x, ltb-true 0 (count x (route_at routes from)) e)))
      go false e =
          let none : count x (route_at routes from) ≡ 0 = omega (arith, ltb-false 0 (count x (route_at routes from)) e) in
          slot_same x routes routes' (many ∙ sym many')
          (each_slot (λ (i : ℕ). count x (route_at routes i) ≡ count x (route_at routes' i)) into from
          (omega (arith, ap (count x) into_at, k.counted x, none))
          (none ∙ ap (count x) (sym from_at))
          (λ i p q. ap (count x) (sym (other_at i p q))))

  module _ (cells' lens' loads' slots' : List ℕ) (known : length slots' ≡ length slots) (t : SlotTaken cells lens loads slots into from stops cells' lens' loads' slots') where
    room : into * 101 + length stops ≤ length cells
    room = omega (arith, few, g.room.most, g.room.celled, u.into, many)

    lens_at : (i : ℕ) → i < n → get_or lens' i 0 ≡ length (route_at routes' i)
    lens_at i h = rw t.measured (table_same length refl n routes lens many (omega (arith, g.room.most, g.room.measured)) into from stops u g.long (length stops) refl i h)

    loads_at : (i : ℕ) → i < n → get_or loads' i 0 ≡ load_of s (route_at routes' i)
    unfolding load_of
    loads_at i h =
        rw t.loaded
        (table_same (load_of s) refl n routes loads many (omega (arith, g.room.most, g.room.loaded)) into from stops u g.load (get_or loads into 0 + get_or loads from 0)
        (omega (arith, g.load into (omega (arith, many, u.into)), g.load from (omega (arith, many, u.from)), k.load)) i h)

    -- the rounds in the tables
    slot_is : (i : ℕ) → i < n → slot_at cells' lens' i ≡ route_at routes' i
    slot_is i h = rw (lens_at i h, t.celled) (each_slot (λ (i : ℕ). i < n → take (length (route_at routes' i)) (drop (i * 101) (write cells (into * 101) stops)) ≡ route_at routes' i) into from here gone others i h)
      where
        here : into < n → take (length (route_at routes' into)) (drop (into * 101) (write cells (into * 101) stops)) ≡ route_at routes' into
        here h = rw into_at (ap (λ (j : ℕ). take (length stops) (drop j (write cells (into * 101) stops))) (sym (add-zero (into * 101))) ∙ part_write cells (into * 101) [] stops room)

        gone : from < n → take (length (route_at routes' from)) (drop (from * 101) (write cells (into * 101) stops)) ≡ route_at routes' from
        gone h = rw from_at

        others : (i : ℕ) → (i ≡ into → ⊥) → (i ≡ from → ⊥) → i < n → take (length (route_at routes' i)) (drop (i * 101) (write cells (into * 101) stops)) ≡ route_at routes' i
        others i p q h =
            let long : length (route_at routes i) ≤ 101 = omega (arith, route_few routes i, g.routes.few) in
            rw (other_at i p q)
            (other_same cells into stops room few i (length (route_at routes i)) long p
            ∙ ap (λ (m : ℕ). take m (drop (i * 101) cells)) (sym (g.long i h))
            ∙ sym (slots_at n cells lens i h))

    taken_routes : slots_in n cells' lens' ≡ routes'
    taken_routes = routes_same (slots_in n cells' lens') routes' (length_slots n cells' lens' ∙ sym many')
        (λ i h. let l : i < n = omega (arith, h, length_slots n cells' lens') in slots_at n cells' lens' i l ∙ slot_is i l)

    taken_slot : (x : ℕ) → x < 101 → get_or slots' x 0 ≡ slot_of x routes'
    taken_slot x h =
        t.known x (omega (arith, g.room.known))
        ∙ ap (λ (l : List ℕ). cond (ltb 0 (count x l)) into (get_or slots x 0)) (sym (slots_at n cells lens from (omega (arith, many, u.from))))
        ∙ ap (cond (ltb 0 (count x (route_at routes from))) into) (g.slot x h)
        ∙ slot_after x

    taken_slotted : Slotted s n cells' lens' loads' slots'
    taken_slotted = record {
      room = record {
        most = g.room.most;
        celled = omega (arith, ap length t.celled, length_write cells (into * 101) stops room, g.room.celled);
        measured = omega (arith, ap length t.measured, both_long lens into from (length stops) 0, g.room.measured);
        loaded = omega (arith, ap length t.loaded, both_long loads into from (get_or loads into 0 + get_or loads from 0) 0, g.room.loaded);
        known = omega (arith, known, g.room.known);
      };
      routes = rw taken_routes (record { sheet = g.routes.sheet; few = omega (arith, all_stops_lem, g.routes.few); once = once; rows = rows });
      long = rw taken_routes lens_at;
      load = rw taken_routes loads_at;
      slot = rw taken_routes taken_slot;
    }

-- the tables hold what the merge makes of the rounds
pub took_over : (s : List ℕ) (n : ℕ) (cells lens loads slots : List ℕ) → Slotted s n cells lens loads slots
    → (into from : ℕ) (stops : List ℕ) → Slots (slots_in n cells lens) into from
    → JoinedStops s (λ (i : ℕ). i < rows_of s) (route_at (slots_in n cells lens) into) (route_at (slots_in n cells lens) from) stops
    → (cells' lens' loads' slots' : List ℕ) → length slots' ≡ length slots → SlotTaken cells lens loads slots into from stops cells' lens' loads' slots'
    → Slotted s n cells' lens' loads' slots' × (slots_in n cells' lens' ≡ after_merge (slots_in n cells lens) (joined into from stops))
took_over s n cells lens loads slots g into from stops u k cells' lens' loads' slots' known t =
    (taken_slotted s n cells lens loads slots g into from stops u k cells' lens' loads' slots' known t, taken_routes s n cells lens loads slots g into from stops u k cells' lens' loads' slots' known t)
