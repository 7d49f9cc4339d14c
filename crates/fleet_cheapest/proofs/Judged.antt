-- Places are judged as the limiter has it: the terms say that going alone costs without end, so no stop is too dear. Assumes nothing.
use Rattle.std.specs.Prelude.{Option, Some, None, is_some}
use mathlib.Core.Path.{◌≡◌, refl, sym, ap, ◌∙◌}
use Prim.Native.Nat.{ℕ, zero, suc, ◌+◌, ◌≤◌, ◌<◌}
use native.Mathlib.Omega.{arith}
use mathlib.Core.Bool.{Bool, true, false, not, ◌&&◌, ◌||◌, true≢false}
use mathlib.Core.List.{List, [], ◌∷◌}
use lib.Dec.{T, leb}
use lib.ListN.{length, get_or}
use lib.Ieee.{Float, inf, le}
use borrow.Author.Tests.{lt-leb, le-leb}
use Rattle.lists.specs.Laws.Every.{every_of}
use Rattle.lists.specs.Moved.{inserted}
use Rattle.sheet.specs.Fields.{rows_of, vehicles_of}
use Rattle.sheet.specs.Laws.Finite.{demand_bounded}
use Rattle.sheet.specs.Values.{demand_of, vehicle_of}
use Rattle.evaluation_clock.specs.Sums.{◌⊕◌, ◌⊖◌}
use Rattle.evaluation.specs.Limits.{limits_at, is_unlimited}
use Rattle.evaluation.specs.Routed.{Routed}
use Rattle.evaluation.specs.Feasible.{priced_distance, route_eval, cost_of, effective_cost}
use Rattle.evaluation.specs.Laws.Verdict.{allowed_feasible}
use Rattle.evaluation_clock.specs.declared.clock.Schedule.{Schedule}
use Rattle.constructive.specs.Load.{load_of}
use Rattle.constructive.specs.Unchecked.{Windowless}
use Rattle.constructive.specs.declared.terms.Terms.{Terms}
use Rattle.constructive.proofs.Loading.{load_few}
use Rattle.constructive.specs.Rounds.{passes}
use Rattle.insertion.specs.Choice.{Choice}
use Rattle.insertion.specs.Place.{judged, judge, better_place, try_places}
use Rattle.insertion.specs.Laws.Judging.{hard_judge}
use Rattle.insertion.specs.Trial.{Joinable, alone_cost, prices_of}
use Rattle.insertion.specs.declared.place.Prices.{Prices}
use Rattle.insertion.proofs.Trying.{routed}
use Rattle.fleet.specs.Cheapest.{priced_of, judge_at, places_from, takes, in_round}
use Rattle.fleet_cheapest.specs.declared.Windows.{Windows}
use Rattle.fleet_cheapest.specs.Promises.{WindowsOf, terms_at}
use Rattle.fleet_cheapest.proofs.Priced.{alone_endless, added_below}

-- where no check is asked
unchecked : (any free : Bool) → (any || not free) ≡ false → (any ≡ false) × T free
unchecked true free e = absurd (true≢false e)
unchecked false true e = (refl, tt)
unchecked false false e = absurd (true≢false e)

module _ (s : List ℕ) (w : Windows) (v : ℕ) (route : List ℕ) (row : ℕ) (known : WindowsOf s w) (own : v < vehicles_of s) (round : Routed s 0 route) (inside : row < rows_of s) where
  lone : Routed s 0 (row ∷ [])
  lone = record {
    sheet = known.sheet;
    home = round.home;
    few = omega arith;
    row = λ k h. let e : k ≡ 0 = omega arith in rw e inside;
  }

  -- ---- what the code is handed
  joinable : length route < 101 → Joinable s (terms_at s w v) route (row ∷ [])
  unfolding terms_at
  joinable room = record {
    round = round;
    unrouted = lone;
    room = room;
    unwalked = record {
      hard = λ e. known.hard (none e).0;
      free = λ e. (none e).1;
      round = λ e. every_of (Windowless s) 0 route (λ k h. known.windowless (none e).0 (get_or route k 0) (round.row k h));
      unrouted = λ e. (known.windowless (none e).0 row inside, tt);
    };
  }
    where
      none : (w.any || not (is_unlimited (limits_at s v))) ≡ false → (w.any ≡ false) × T (is_unlimited (limits_at s v))
      none e = unchecked w.any (is_unlimited (limits_at s v)) e

  endless_alone : alone_cost s (terms_at s w v) row ≡ inf false
  unfolding terms_at
  endless_alone = alone_endless s v own (row ∷ []) lone

  module _ (t : Terms) (told : t ≡ terms_at s w v) where
    pub handed : length route < 101 → Joinable s t route (row ∷ [])
    handed room = rw told (joinable room)

    pub prices_so : t.soft ≡ true → (x : Option Schedule) → x ≡ route_eval s t.depot t.limits route → (figures : Schedule) → x ≡ Some figures → (cost : Float) → cost ≡ priced_distance figures
        → ◌≡◌ {A = Option Prices} (Some (record { round = cost; alone = inf false })) (prices_of s t route row)
    unfolding effective_cost cost_of
    prices_so soft x e figures f cost g =
        let endless : alone_cost s t row ≡ inf false = rw told endless_alone in
        rw (soft, endless, ← e, f, g)

  -- ---- one place
  hard_so : (k : ℕ) → w.soft ≡ false → judge s (terms_at s w v) route row k ≡ judge_at s w.soft v route row k
  unfolding judge_at terms_at
  hard_so k e = hard_judge s (terms_at s w v) route row k e ∙ rw e

  module _ (room : length route < 101) (allowed : w.soft ≡ true → passes s 0 v route ≡ true) where
    soft_so : (k : ℕ) → k ≤ length route → w.soft ≡ true → judge s (terms_at s w v) route row k ≡ judge_at s w.soft v route row k
    unfolding judge judge_at terms_at
    soft_so k h e = rw e (go (passes s 0 v (inserted k row route)) refl (priced_of s v (inserted k row route) ⊖ priced_of s v route) refl)
      where
        go : (b : Bool) → passes s 0 v (inserted k row route) ≡ b → (cost : Float) → cost ≡ priced_of s v (inserted k row route) ⊖ priced_of s v route
            → judged (b && not (le (priced_of s v (row ∷ []) ⊕ inf false) cost)) cost ≡ judged b cost
        go false p cost f = refl
        go true p cost f =
            let with = routed s (terms_at s w v) route row (joinable room) k (inserted k row route) (record { place = h; holds = refl }) in
            let below : le (inf false) cost ≡ false = ap (le (inf false)) f ∙ added_below s v own (inserted k row route) route with round p (allowed e) in
            rw (alone_endless s v own (row ∷ []) lone, below)

    judge_so : (k : ℕ) → k ≤ length route → judge s (terms_at s w v) route row k ≡ judge_at s w.soft v route row k
    judge_so k h = go w.soft refl
      where
        go : (b : Bool) → w.soft ≡ b → judge s (terms_at s w v) route row k ≡ judge_at s w.soft v route row k
        go true e = soft_so k h e
        go false e = hard_so k e

    -- ---- the places of a round
    places_so : (i : ℕ) (c : Choice) (n k : ℕ) → k + n ≤ suc (length route) → try_places s (terms_at s w v) route i row c n k ≡ places_from s w.soft v route row i c n k
    unfolding try_places places_from
    places_so i c zero k h = refl
    places_so i c (suc n) k h = rw (judge_so k (omega arith)) (places_so i (better_place c i k (judge_at s w.soft v route row k)) n (k + 1) (omega arith))

  -- ---- a round as it stands
  -- its load with the stop is no more than a u32 holds
  pub summed : (load demand : ℕ) → load ≡ load_of s route → demand ≡ demand_of s row → length route < 101 → load + demand ≤ 101000000
  summed load demand carried asked room = omega (arith, load_few s known.sheet route (every_of (λ (k : ℕ). k < rows_of s) 0 route round.row), demand_bounded s known.sheet row inside)

  module _ (t : Terms) (told : t ≡ terms_at s w v) (load demand : ℕ) (carried : load ≡ load_of s route) (asked : demand ≡ demand_of s row) (c : Choice) (i : ℕ) where
    abbrev into : Choice
    into = in_round s w.soft row c i (record { vehicle = v; stops = route })

    room_for : t.capacity ≡ (vehicle_of s v).capacity
    unfolding terms_at
    room_for = ap (λ (x : Terms). x.capacity) told

    pub over : t.capacity < load + demand → c ≡ into
    unfolding in_round takes
    over h = rw (lt-leb (load_of s route + demand_of s row) (vehicle_of s v).capacity (omega (arith, room_for)))

    soft_told : t.soft ≡ w.soft
    unfolding terms_at
    soft_told = ap (λ (x : Terms). x.soft) told

    module _ (h : load + demand ≤ t.capacity) where
      within : leb (load_of s route + demand_of s row) (vehicle_of s v).capacity ≡ true
      within = le-leb (load_of s route + demand_of s row) (vehicle_of s v).capacity (omega (arith, room_for))

      stands : length route < 101 → (not w.soft || passes s 0 v route) ≡ true → (x : Choice) → x ≡ try_places s t route i row c (suc (length route)) 0 → x ≡ into
      unfolding in_round takes
      stands room standing x g =
          g ∙ ap (λ (y : Terms). try_places s y route i row c (suc (length route)) 0) told ∙ places_so room (λ p. rw p at standing) i c (suc (length route)) 0 (omega arith) ∙ rw (within, standing)

      -- where no window is soft
      pub free : length route < 101 → t.soft ≡ false → (x : Choice) → x ≡ try_places s t route i row c (suc (length route)) 0 → x ≡ into
      free room hard = stands room (rw (← soft_told, hard))

      -- where one is, the round is walked as it stands
      module _ (soft : t.soft ≡ true) (x : Option Schedule) (e : x ≡ route_eval s t.depot t.limits route) where
        walked : is_some x ≡ passes s 0 v route
        unfolding terms_at
        walked = ap is_some (e ∙ ap (λ (y : Terms). route_eval s y.depot y.limits route) told) ∙ allowed_feasible s 0 (limits_at s v) route

        pub barred : x ≡ None → c ≡ into
        unfolding in_round takes
        barred f =
            let out : passes s 0 v route ≡ false = sym walked ∙ ap is_some f in
            rw (within, ← soft_told, soft, out)

        pub taken : (figures : Schedule) → x ≡ Some figures → length route < 101 → (y : Choice) → y ≡ try_places s t route i row c (suc (length route)) 0 → y ≡ into
        taken figures f room =
            let passed : passes s 0 v route ≡ true = sym walked ∙ ap is_some f in
            stands room (rw (← soft_told, soft, passed))
