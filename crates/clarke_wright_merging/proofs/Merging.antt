-- The merges, as the slots have them. Assumes nothing.
use mathlib.Core.Path.{◌≡◌, refl, sym, ap, ◌∙◌}
use Prim.Native.Nat.{ℕ, suc, ◌+◌, ◌≤◌, ◌<◌, zero-le}
use native.Mathlib.Nat.{le_of_suc-le-suc, not-suc-le-zero, zero-lt-suc}
use native.Mathlib.Numerals.{add-one}
use native.Mathlib.Omega.{arith}
use mathlib.Core.Bool.{Bool, true, false, not, and-false, cond}
use mathlib.Core.List.{List, [], ◌∷◌}
use lib.Dec.{ltb, eqb}
use lib.ListN.{length, get_or, drop}
use lib.Seq.{drop-cons, drop-length}
use borrow.Author.Tests.{ltb-true, eq-eqb, ne_eqb, le-leb, lt-leb}
use Rattle.lists.specs.Count.{count}
use Rattle.sheet.specs.Fields.{rows_of}
use Rattle.constructive.specs.Load.{load_of}
use Rattle.clarke_wright_savings.specs.declared.terms.Directed.{Directed}
use Rattle.clarke_wright_savings.specs.Savings.{route_at, slot_of, first_is, last_is, Merge, apart, joining, only_if, may_join, passing, merge_of, after_merge}
use Rattle.clarke_wright_savings.specs.Routes.{Slots}
use Rattle.clarke_wright_slots.specs.Slots.{slot_at as slot_stops, slots_in, Slotted}
use Rattle.clarke_wright_slots.specs.Laws.Slots.{length_slots, slots_past}
use Rattle.clarke_wright_joining.specs.Way.{Way}
use Rattle.clarke_wright_joining.specs.Ways.{meant, way_of, WaySlots}
use Rattle.clarke_wright_joining.proofs.Ways.{joining_meant, way_slots}
use Rattle.clarke_wright_joining.proofs.Joining.{only_apart, apart_stays, Fitting, slot_route, loads_fit, fit}
use Rattle.clarke_wright_merging.specs.Legs.{merged_in}

-- ---- the slot of a row
slot_most : (x : ℕ) (routes : List (List ℕ)) → slot_of x routes ≤ length routes
unfolding slot_of
slot_most x [] = zero-le
slot_most x (r ∷ rs) = go (ltb 0 (count x r)) (slot_most x rs)
  where
    go : (b : Bool) → slot_of x rs ≤ length rs → cond b 0 (suc (slot_of x rs)) ≤ suc (length rs)
    go true h = zero-le
    go false h = omega (arith, h)

-- the slot of a row has stops
slot_some : (x : ℕ) (routes : List (List ℕ)) → slot_of x routes < length routes → 0 < length (route_at routes (slot_of x routes))
unfolding slot_of count
slot_some x [] h = absurd (not-suc-le-zero h)
slot_some x (r ∷ rs) h = go (ltb 0 (count x r)) refl (slot_some x rs) h
  where
    some : (rows : List ℕ) → 0 < count x rows → 0 < length rows
    some [] h = h
    some (row ∷ rows) h = zero-lt-suc (length rows)

    go : (b : Bool) → ltb 0 (count x r) ≡ b → (slot_of x rs < length rs → 0 < length (route_at rs (slot_of x rs)))
        → cond b 0 (suc (slot_of x rs)) < suc (length rs) → 0 < length (route_at (r ∷ rs) (cond b 0 (suc (slot_of x rs))))
    go true e f h = some r (ltb-true 0 (count x r) e)
    go false e f h = f (le_of_suc-le-suc h)

-- ---- where two rounds stay apart
joining_none : (directed : Bool) (i j a b : ℕ) (rj : List ℕ) → joining directed i j a b [] rj ≡ apart
joining_none true i j a b rj = refl
joining_none false i j a b rj = rw (and-false (last_is j rj))

joining_onto_none : (directed : Bool) (i j a b : ℕ) (ri : List ℕ) → joining directed i j a b ri [] ≡ apart
joining_onto_none true i j a b ri = rw (and-false (last_is i ri))
joining_onto_none false i j a b ri = rw (and-false (last_is i ri), and-false (first_is i ri))

module _ (s : List ℕ) (t : Directed) (routes : List (List ℕ)) (i j : ℕ) where
  abbrev a : ℕ
  a = slot_of i routes

  abbrev b : ℕ
  b = slot_of j routes

  abbrev ri : List ℕ
  ri = route_at routes a

  abbrev rj : List ℕ
  rj = route_at routes b

  -- two rounds that may be joined
  may_be : may_join s t.common a b ri rj ≡ true → merge_of s t routes i j ≡ passing s t.common routes (joining t.directed i j a b ri rj)
  unfolding merge_of
  may_be e = ap (λ (x : Bool). passing s t.common routes (only_if x (joining t.directed i j a b ri rj))) e

  may_not : may_join s t.common a b ri rj ≡ false → merge_of s t routes i j ≡ apart
  unfolding merge_of
  may_not e = ap (λ (x : Bool). passing s t.common routes (only_if x (joining t.directed i j a b ri rj))) e ∙ apart_stays s t.common routes

  no_way : joining t.directed i j a b ri rj ≡ apart → merge_of s t routes i j ≡ apart
  unfolding merge_of
  no_way e =
      ap (λ (m : Merge). passing s t.common routes (only_if (may_join s t.common a b ri rj) m)) e
      ∙ ap (passing s t.common routes) (only_apart (may_join s t.common a b ri rj))
      ∙ apart_stays s t.common routes

  same_apart : a ≡ b → merge_of s t routes i j ≡ apart
  same_apart e = may_not (rw (eq-eqb a b e))

  over_apart : t.common.capacity < load_of s ri + load_of s rj → merge_of s t routes i j ≡ apart
  over_apart h = may_not (rw (lt-leb (load_of s ri + load_of s rj) t.common.capacity h) (and-false (not (eqb a b))))

  none_apart : ri ≡ [] → merge_of s t routes i j ≡ apart
  none_apart e = no_way (ap (λ (r : List ℕ). joining t.directed i j a b r rj) e ∙ joining_none t.directed i j a b rj)

  onto_none_apart : rj ≡ [] → merge_of s t routes i j ≡ apart
  onto_none_apart e = no_way (ap (λ (r : List ℕ). joining t.directed i j a b ri r) e ∙ joining_onto_none t.directed i j a b ri)

  both_join : (a ≡ b → ⊥) → load_of s ri + load_of s rj ≤ t.common.capacity → merge_of s t routes i j ≡ passing s t.common routes (meant routes (way_of t.directed (first_is i ri) (last_is i ri) (first_is j rj) (last_is j rj) a b))
  both_join n h =
      may_be (rw (ne_eqb a b n, le-leb (load_of s ri + load_of s rj) t.common.capacity h))
      ∙ ap (passing s t.common routes) (joining_meant routes a b t.directed i j)

module _ {s : List ℕ} {n : ℕ} {cells lens loads slots : List ℕ} (g : Slotted s n cells lens loads slots) where
  abbrev routes : List (List ℕ)
  routes = slots_in n cells lens

  -- ---- the slots of two rows
  module _ (t : Directed) {i j : ℕ} (rows : (i < rows_of s) × (j < rows_of s)) where
    abbrev at : ℕ → ℕ
    at x = get_or slots x 0

    slot_at : (x : ℕ) → x < rows_of s → at x ≡ slot_of x routes
    slot_at x h = g.slot x (omega (arith, h, g.routes.sheet.sized.rows))

    stays : merge_of s t routes i j ≡ apart → routes ≡ after_merge routes (merge_of s t routes i j)
    stays e = sym (ap (after_merge routes) e)

    pub same_slot : at i ≡ at j → routes ≡ after_merge routes (merge_of s t routes i j)
    same_slot e = stays (same_apart s t routes i j (sym (slot_at i rows.0) ∙ e ∙ slot_at j rows.1))

    pub none_from : at i ≡ n → routes ≡ after_merge routes (merge_of s t routes i j)
    none_from e = stays (none_apart s t routes i j (slots_past n cells lens (slot_of i routes) (omega (arith, e, slot_at i rows.0))))

    pub none_to : at j ≡ n → routes ≡ after_merge routes (merge_of s t routes i j)
    none_to e = stays (onto_none_apart s t routes i j (slots_past n cells lens (slot_of j routes) (omega (arith, e, slot_at j rows.1))))

    -- they are two, and both rows have one
    module _ (differ : at i ≡ at j → ⊥) (p : at i ≡ n → ⊥) (q : at j ≡ n → ⊥) where
      slot_in : (x : ℕ) → x < rows_of s → (at x ≡ n → ⊥) → at x < n
      slot_in x h p = omega (arith, slot_at x h, slot_most x routes, length_slots n cells lens, p)

      below_i : at i < n
      below_i = slot_in i rows.0 p

      below_j : at j < n
      below_j = slot_in j rows.1 q

      pub two_fit : Fitting cells lens loads (at i) (at j)
      two_fit = fit g (at i) (at j) below_i below_j

      two_slots : Slots routes (at i) (at j)
      two_slots = record { differ = differ; into = omega (arith, below_i, length_slots n cells lens); from = omega (arith, below_j, length_slots n cells lens) }

      load_at : (x : ℕ) → x < rows_of s → (at x ≡ n → ⊥) → get_or loads (at x) 0 ≡ load_of s (route_at routes (slot_of x routes))
      load_at x h p = g.load (at x) (slot_in x h p) ∙ ap (λ (k : ℕ). load_of s (route_at routes k)) (slot_at x h)

      pub load_sum : get_or loads (at i) 0 + get_or loads (at j) 0 < 0x1_0000_0000
      load_sum = loads_fit g (at i) (at j) differ below_i below_j

      pub too_much : t.common.capacity < get_or loads (at i) 0 + get_or loads (at j) 0 → routes ≡ after_merge routes (merge_of s t routes i j)
      too_much h = stays (over_apart s t routes i j (omega (arith, h, load_at i rows.0 p, load_at j rows.1 q)))

      -- the stops that are read there
      module _ {ri rj : List ℕ} (u : ri ≡ slot_stops cells lens (at i)) (v : rj ≡ slot_stops cells lens (at j)) where
        from_so : ri ≡ route_at routes (slot_of i routes)
        from_so = u ∙ slot_route g (at i) below_i ∙ ap (route_at routes) (slot_at i rows.0)

        to_so : rj ≡ route_at routes (slot_of j routes)
        to_so = v ∙ slot_route g (at j) below_j ∙ ap (route_at routes) (slot_at j rows.1)

        pub both_some : (0 < length ri) × (0 < length rj)
        both_some = rw (from_so, to_so) (
          slot_some i routes (omega (arith, below_i, slot_at i rows.0, length_slots n cells lens)),
          slot_some j routes (omega (arith, below_j, slot_at j rows.1, length_slots n cells lens)),
        )

        -- the way that the code finds
        module _ {way : Way} (e : way ≡ way_of t.directed (first_is i ri) (last_is i ri) (first_is j rj) (last_is j rj) (at i) (at j)) where
          pub ways : WaySlots routes way
          ways = rw e (way_slots routes (at i) (at j) t.directed (first_is i ri) (last_is i ri) (first_is j rj) (last_is j rj) two_slots)

          pub merges : get_or loads (at i) 0 + get_or loads (at j) 0 ≤ t.common.capacity → merge_of s t routes i j ≡ passing s t.common routes (meant routes way)
          merges h =
              both_join s t routes i j (λ k. differ (slot_at i rows.0 ∙ k ∙ sym (slot_at j rows.1))) (omega (arith, h, load_at i rows.0 p, load_at j rows.1 q))
              ∙ ap (λ (w : Way). passing s t.common routes (meant routes w)) (sym (rw (from_so, to_so, slot_at i rows.0, slot_at j rows.1) at e))

-- ---- one saving after another
pub record Merging (s : List ℕ) (t : Directed) (n : ℕ) (from to entries cells₀ lens₀ cells lens loads slots : List ℕ) (k : ℕ) : Type 0 where
  pub slotted : Slotted s n cells lens loads slots
  pub within : k ≤ length entries
  pub same : merged_in s t from to (drop k entries) (slots_in n cells lens) ≡ merged_in s t from to entries (slots_in n cells₀ lens₀)

module _ {s : List ℕ} {t : Directed} {n : ℕ} {from to entries cells₀ lens₀ cells lens loads slots : List ℕ} {k : ℕ} (g : Merging s t n from to entries cells₀ lens₀ cells lens loads slots k) where
  module _ (inside : k < length entries) where
    abbrev e : ℕ
    e = get_or entries k 0

    pub goes_on : {cells' lens' loads' slots' : List ℕ} → Slotted s n cells' lens' loads' slots'
        → slots_in n cells' lens' ≡ after_merge (slots_in n cells lens) (merge_of s t (slots_in n cells lens) (get_or from e 0) (get_or to e 0))
        → Merging s t n from to entries cells₀ lens₀ cells' lens' loads' slots' (k + 1)
    unfolding merged_in
    goes_on m q = record {
      slotted = m;
      within = omega (arith, inside);
      same =
          ap (merged_in s t from to (drop (k + 1) entries)) q
          ∙ ap (λ (es : List ℕ). merged_in s t from to es (slots_in n cells lens)) (sym (drop-cons entries k 0 inside ∙ ap (λ (x : ℕ). e ∷ drop x entries) (sym (add-one k))))
          ∙ g.same;
    }

  pub ends : length entries ≤ k → slots_in n cells lens ≡ merged_in s t from to entries (slots_in n cells₀ lens₀)
  unfolding merged_in
  ends h =
      let at : k ≡ length entries = omega (arith, h, g.within) in
      ap (λ (es : List ℕ). merged_in s t from to es (slots_in n cells lens)) (sym (ap (λ (x : ℕ). drop x entries) at ∙ drop-length entries))
      ∙ g.same
