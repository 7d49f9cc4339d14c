-- The join of two slots. Assumes nothing.
use Rattle.std.specs.Prelude.{Some}
use mathlib.Core.Path.{◌≡◌, refl, sym, ap, ◌∙◌, subst}
use Prim.Native.Nat.{ℕ, zero, suc, ◌+◌, ◌*◌, ◌≤◌, ◌<◌, zero-le}
use native.Mathlib.Omega.{arith}
use mathlib.Core.Bool.{Bool, true, false}
use mathlib.Core.List.{List, [], ◌∷◌}
use lib.ListN.{length, get_or}
use Rattle.lists.specs.Every.{Every}
use Rattle.lists.specs.Laws.Every.{every_at}
use Rattle.sheet.specs.Fields.{rows_of}
use Rattle.evaluation.specs.Routed.{Routed}
use Rattle.constructive.specs.declared.terms.Terms.{Terms}
use Rattle.constructive.proofs.Loading.{load_few}
use Rattle.clarke_wright_savings.specs.Savings.{route_at, apart, joined, only_if, joined_passes, merge_passes, passing, after_merge}
use Rattle.clarke_wright_savings.specs.Routes.{Slots}
use Rattle.clarke_wright_savings.specs.Laws.Joined.{JoinedStops}
use Rattle.clarke_wright_slots.specs.Slots.{slot_at, slots_in, routed_stops, Roomy, Slotted, end_to_end, SlotTaken}
use Rattle.clarke_wright_slots.specs.Laws.Slots.{length_slots, slots_at, route_few, roomy_within}
use Rattle.clarke_wright_slots.proofs.Slotting.{took_over}
use Rattle.clarke_wright_joining.specs.Way.{Way}
use Rattle.clarke_wright_joining.specs.Ways.{meant, WaySlots}
use Rattle.clarke_wright_joining.proofs.Ways.{turned_stops}

-- ---- how many stops a slot has, and what they ask
two_few : (routes : List (List ℕ)) (a b : ℕ) → (a ≡ b → ⊥) → length (route_at routes a) + length (route_at routes b) ≤ routed_stops routes
unfolding routed_stops
two_few [] a b n = zero-le
two_few (r ∷ rs) zero zero n = absurd (n refl)
two_few (r ∷ rs) zero (suc b) n = let e = route_few rs b in omega arith
two_few (r ∷ rs) (suc a) zero n = let e = route_few rs a in omega arith
two_few (r ∷ rs) (suc a) (suc b) n = let e = two_few rs a b (λ k. n (ap suc k)) in omega arith

-- ---- where two rounds stay apart
pub only_apart : (b : Bool) → only_if b apart ≡ apart
only_apart true = refl
only_apart false = refl

pub apart_stays : (s : List ℕ) (t : Terms) (routes : List (List ℕ)) → passing s t routes apart ≡ apart
apart_stays s t routes = only_apart (merge_passes s t routes apart)

-- what the reads of two slots ask
pub record Fitting (cells lens loads : List ℕ) (into from : ℕ) : Type 0 where
  pub into_in : into < 101
  pub from_in : from < 101
  pub into_celled : into * 101 + 101 ≤ length cells
  pub from_celled : from * 101 + 101 ≤ length cells
  pub measured : 101 ≤ length lens
  pub loaded : 101 ≤ length loads
  pub into_long : get_or lens into 0 ≤ 101
  pub from_long : get_or lens from 0 ≤ 101

module _ {s : List ℕ} {n : ℕ} {cells lens loads slots : List ℕ} (g : Slotted s n cells lens loads slots) where
  abbrev routes : List (List ℕ)
  routes = slots_in n cells lens

  pub slot_route : (k : ℕ) → k < n → slot_at cells lens k ≡ route_at routes k
  slot_route k h = sym (slots_at n cells lens k h)

  rows_at : (k : ℕ) → k < n → Every (λ (i : ℕ). i < rows_of s) (route_at routes k)
  rows_at k h = every_at (Every (λ (i : ℕ). i < rows_of s)) [] routes k (omega (arith, h, length_slots n cells lens)) g.routes.rows

  stops_fit : (a b : ℕ) → (a ≡ b → ⊥) → length (route_at routes a) + length (route_at routes b) ≤ 101
  stops_fit a b d = omega (arith, two_few routes a b d, g.routes.few)

  pub loads_fit : (a b : ℕ) → (a ≡ b → ⊥) → a < n → b < n → get_or loads a 0 + get_or loads b 0 < 0x1_0000_0000
  loads_fit a b d p q =
      omega (arith, g.load a p, g.load b q, load_few s g.routes.sheet (route_at routes a) (rows_at a p), load_few s g.routes.sheet (route_at routes b) (rows_at b q), stops_fit a b d)

  short_at : (k : ℕ) → k < n → get_or lens k 0 ≤ 101
  short_at k h = omega (arith, g.long k h, route_few routes k, g.routes.few)

  pub fit : (a b : ℕ) → a < n → b < n → Fitting cells lens loads a b
  fit a b p q = record {
    into_in = omega (arith, p, g.room.most);
    from_in = omega (arith, q, g.room.most);
    into_celled = omega (arith, p, g.room.celled);
    from_celled = omega (arith, q, g.room.celled);
    measured = g.room.measured;
    loaded = g.room.loaded;
    into_long = short_at a p;
    from_long = short_at b q;
  }

  -- ---- a way that joins two slots
  module _ {way : Way} {into from : ℕ} {back forth : Bool} (y : WaySlots routes way) (w : way ≡ Some (into, from, back, forth)) where
    two : Slots routes into from
    two = subst (WaySlots routes) w y

    into_in : into < n
    into_in = omega (arith, two.into, length_slots n cells lens)

    from_in : from < n
    from_in = omega (arith, two.from, length_slots n cells lens)

    pub fitting : Fitting cells lens loads into from
    fitting = fit into from into_in from_in

    -- what taking over asks of the slots
    from_row : (m : ℕ) → m < get_or lens from 0 → get_or (slot_at cells lens from) m 0 < 101
    from_row m h =
        let l = every_at (λ (i : ℕ). i < rows_of s) 0 (route_at routes from) m (omega (arith, h, g.long from from_in)) (rows_at from from_in) in
        let q = ap (λ (r : List ℕ). get_or r m 0) (slots_at n cells lens from from_in) in
        omega (arith, l, q, g.routes.sheet.sized.rows)

    load_fits : get_or loads into 0 + get_or loads from 0 < 0x1_0000_0000
    load_fits = loads_fit into from two.differ into_in from_in

    -- the stops that are read there
    module _ {ri rj : List ℕ} (p : ri ≡ slot_at cells lens into) (q : rj ≡ slot_at cells lens from) where
      into_so : ri ≡ route_at routes into
      into_so = p ∙ slot_route into into_in

      from_so : rj ≡ route_at routes from
      from_so = q ∙ slot_route from from_in

      pub few_stops : length ri + length rj ≤ 101
      few_stops = rw (into_so, from_so) (stops_fit into from two.differ)

      -- the rounds joined
      module _ (t : Terms) (home : t.depot < rows_of s) {stops : List ℕ} (e : stops ≡ end_to_end back forth ri rj) where
        joined_stops : stops ≡ end_to_end back forth (route_at routes into) (route_at routes from)
        joined_stops = rw (into_so, from_so) at e

        same_stops : JoinedStops s (λ (i : ℕ). i < rows_of s) (route_at routes into) (route_at routes from) stops
        same_stops = rw joined_stops (turned_stops s (λ (i : ℕ). i < rows_of s) back forth (route_at routes into) (route_at routes from))

        stops_few : length stops ≤ 101
        stops_few = omega (arith, same_stops.long, stops_fit into from two.differ)

        routed_of : (route : List ℕ) → length route ≤ 101 → Every (λ (i : ℕ). i < rows_of s) route → Routed s t.depot route
        routed_of route l r = record {
          sheet = g.routes.sheet;
          home = home;
          few = l;
          row = λ m h. every_at (λ (i : ℕ). i < rows_of s) 0 route m h r;
        }

        -- what the checks ask
        pub all_routed : Routed s t.depot ri × (Routed s t.depot rj × Routed s t.depot stops)
        all_routed = (
          routed_of ri (omega (arith, few_stops)) (rw into_so (rows_at into into_in)),
          (
            routed_of rj (omega (arith, few_stops)) (rw from_so (rows_at from from_in)),
            routed_of stops stops_few (same_stops.every (rows_at into into_in) (rows_at from from_in)),
          ),
        )

        -- what taking over asks
        pub takes_over : Roomy (into + 1) cells lens loads slots × (Roomy (from + 1) cells lens loads slots × ((length stops ≤ 101) × ((get_or lens from 0 ≤ 101) × (((m : ℕ) → m < get_or lens from 0 → get_or (slot_at cells lens from) m 0 < 101) × (get_or loads into 0 + get_or loads from 0 < 0x1_0000_0000)))))
        takes_over = (roomy_within (omega (arith, into_in)) g.room, (roomy_within (omega (arith, from_in)) g.room, (stops_few, (fitting.from_long, (from_row, load_fits)))))

        -- ---- whether it passes
        module _ {passed : Bool} (v : passed ≡ joined_passes s t ri rj stops) where
          abbrev after : List (List ℕ)
          after = after_merge routes (passing s t routes (meant routes way))

          after_so : {b : Bool} → passed ≡ b → after ≡ after_merge routes (only_if b (joined into from stops))
          unfolding merge_passes
          after_so u = rw (w, ← joined_stops, ← into_so, ← from_so, ← v, u)

          pub not_passed : passed ≡ false → routes ≡ after
          not_passed u = sym (after_so u)

          pub taken : passed ≡ true → {cells' lens' loads' slots' : List ℕ} → length slots' ≡ length slots → SlotTaken cells lens loads slots into from stops cells' lens' loads' slots'
              → Slotted s n cells' lens' loads' slots' × (slots_in n cells' lens' ≡ after)
          taken u {cells'} {lens'} {loads'} {slots'} l d =
              let r = took_over s n cells lens loads slots g into from stops two same_stops cells' lens' loads' slots' l d in
              (r.0, r.1 ∙ sym (after_so u))
