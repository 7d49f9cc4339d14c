-- The slots' rounds, laid down one after another, and behind them the stops set aside. Assumes nothing.
use mathlib.Core.Path.{◌≡◌, refl, sym, ap, ◌∙◌}
use Prim.Native.Nat.{ℕ, zero, suc, ◌+◌, ◌*◌, ◌-◌, ◌≤◌, ◌<◌}
use native.Mathlib.Nat.{add-zero}
use native.Mathlib.Omega.{arith}
use mathlib.Core.List.{List, [], ◌∷◌, ◌++◌, append-nil}
use lib.ListN.{length, get_or, take, drop, length-drop}
use lib.Seq.{length-take-le, take_all}
use Rattle.wire.specs.Bytes.{write}
use Rattle.wire.specs.Laws.Bytes.{length_write, write_write}
use Rattle.wire.specs.Laws.Overwrite.{put_part, write_same}
use Rattle.constructive.specs.declared.tables.Filled.{Filled}
use Rattle.constructive.specs.Outcome.{Round, Outcome, chains}
use Rattle.constructive.specs.Stored.{ends_from, vehicles_from, routed_in, filled_by, Stored}
use Rattle.constructive.specs.Laws.Entered.{enters_one}
use Rattle.constructive.specs.Laws.Stored.{chains_aside, chains_append, length_routed, length_ends, length_vehicles}
use Rattle.clarke_wright_savings.specs.Savings.{rounds_of}
use Rattle.clarke_wright_slots.specs.Slots.{slot_at, slots_from, slots_in, routed_stops, Laying}
use Rattle.clarke_wright_slots.specs.Laws.Slots.{slots_more}

-- ---- rounds of two parts
module _ (v : ℕ) where
  rounds_append : (xs ys : List (List ℕ)) → rounds_of v (xs ++ ys) ≡ rounds_of v xs ++ rounds_of v ys
  unfolding rounds_of
  rounds_append [] ys = refl
  rounds_append ([] ∷ xs) ys = rounds_append xs ys
  rounds_append ((row ∷ rows) ∷ xs) ys = ap (◌∷◌ (record { vehicle = v; stops = row ∷ rows })) (rounds_append xs ys)

  rounds_routed : (routes : List (List ℕ)) → routed_in (rounds_of v routes) ≡ routed_stops routes
  unfolding rounds_of routed_in routed_stops
  rounds_routed [] = refl
  rounds_routed ([] ∷ routes) = rounds_routed routes ∙ omega arith
  rounds_routed ((row ∷ rows) ∷ routes) = ap (λ (n : ℕ). length (row ∷ rows) + n) (rounds_routed routes)

  -- each round has a stop, so there are no more rounds than stops
  rounds_few : (routes : List (List ℕ)) → length (rounds_of v routes) ≤ routed_stops routes
  unfolding rounds_of routed_stops
  rounds_few [] = omega arith
  rounds_few ([] ∷ routes) = let l = rounds_few routes in omega arith
  rounds_few ((row ∷ rows) ∷ routes) = let l = rounds_few routes in omega arith

  round_one : (route : List ℕ) → 0 < length route → rounds_of v (route ∷ []) ≡ record { vehicle = v; stops = route } ∷ []
  unfolding rounds_of
  round_one [] h = absurd (omega (arith, h))
  round_one (row ∷ rows) h = refl

stops_append : (xs ys : List (List ℕ)) → routed_stops (xs ++ ys) ≡ routed_stops xs + routed_stops ys
unfolding routed_stops
stops_append [] ys = omega arith
stops_append (x ∷ xs) ys = let e = stops_append xs ys in omega arith

-- the slots before others have no more stops than all
slots_below : (cells lens : List ℕ) (k m : ℕ) → routed_stops (slots_in k cells lens) ≤ routed_stops (slots_in (k + m) cells lens)
slots_below cells lens k zero = let e = ap (λ (i : ℕ). routed_stops (slots_in i cells lens)) (add-zero k) in omega (arith, e)
slots_below cells lens k (suc m) =
    let a = slots_below cells lens k m in
    let b = ap routed_stops (slots_more (k + m) cells lens) in
    let c = stops_append (slots_in (k + m) cells lens) (slot_at cells lens (k + m) ∷ []) in
    let e : k + suc m ≡ k + m + 1 = omega arith in
    let d = ap (λ (i : ℕ). routed_stops (slots_in i cells lens)) e in
    omega (arith, a, b, c, d)

-- ---- the rounds laid down so far
abbrev pub laid_so : List Round → List ℕ → Outcome
laid_so rs left = record { rounds = rs; aside = left }

pub record Filling (n : ℕ) (cells lens : List ℕ) (v : ℕ) (stops₀ ends₀ vehicles₀ : List ℕ) (f₀ : Filled) (stops ends vehicles : List ℕ) (f : Filled) (k : ℕ) : Type 0 where
  pub room : Laying n cells lens stops₀ ends₀ vehicles₀ f₀
  pub within : k ≤ n
  pub laid : Stored stops₀ ends₀ vehicles₀ f₀ (laid_so (rounds_of v (slots_in k cells lens)) []) stops ends vehicles
  pub count : f ≡ filled_by f₀ (rounds_of v (slots_in k cells lens))

-- before the first slot nothing is laid down
pub begins : (n : ℕ) (cells lens : List ℕ) (v : ℕ) (stops ends vehicles : List ℕ) (f : Filled) → Laying n cells lens stops ends vehicles f → Filling n cells lens v stops ends vehicles f stops ends vehicles f 0
unfolding slots_from rounds_of ends_from vehicles_from routed_in chains
begins n cells lens v stops ends vehicles f room = record {
  room = room;
  within = omega arith;
  laid = record {
    stopped = sym (write_same stops f.routed 0 (omega (arith, room.stopped)));
    ended = sym (write_same ends f.rounds 0 (omega (arith, room.rounds, room.ended)));
    driven = sym (write_same vehicles f.rounds 0 (omega (arith, room.rounds, room.driven)));
  };
  count = rw (add-zero f.rounds, add-zero f.routed);
}

module _ {n : ℕ} {cells lens : List ℕ} {v : ℕ} {stops₀ ends₀ vehicles₀ : List ℕ} {f₀ : Filled} {stops ends vehicles : List ℕ} {f : Filled} {k : ℕ}
    (g : Filling n cells lens v stops₀ ends₀ vehicles₀ f₀ stops ends vehicles f k) where
  abbrev done : List Round
  done = rounds_of v (slots_in k cells lens)

  abbrev before : ℕ
  before = routed_stops (slots_in k cells lens)

  abbrev all : ℕ
  all = routed_stops (slots_in n cells lens)

  below : before ≤ all
  below =
      let e : n ≡ k + (n - k) = omega (arith, g.within) in
      let a = ap (λ (m : ℕ). routed_stops (slots_in m cells lens)) e in
      omega (arith, a, slots_below cells lens k (n - k))

  start_at_lem : f.routed ≡ f₀.routed + before
  start_at_lem = ap (λ (x : Filled). x.routed) g.count ∙ ap (λ (m : ℕ). f₀.routed + m) (rounds_routed v (slots_in k cells lens))

  rounds_at_lem : f.rounds ≡ f₀.rounds + length done
  rounds_at_lem = ap (λ (x : Filled). x.rounds) g.count

  few : length done ≤ before
  few = rounds_few v (slots_in k cells lens)

  long_routed : length (chains done []) ≡ before
  long_routed = length_routed done ∙ rounds_routed v (slots_in k cells lens)

  pub stops_long : length stops ≡ length stops₀
  stops_long = ap length g.laid.stopped ∙ length_write stops₀ f₀.routed (chains done []) (omega (arith, long_routed, below, g.room.stopped))

  pub ends_long : length ends ≡ length ends₀
  ends_long = ap length g.laid.ended ∙ length_write ends₀ f₀.rounds (ends_from f₀.routed done) (omega (arith, length_ends f₀.routed done, few, below, g.room.rounds, g.room.ended))

  pub vehicles_long : length vehicles ≡ length vehicles₀
  vehicles_long = ap length g.laid.driven ∙ length_write vehicles₀ f₀.rounds (vehicles_from done) (omega (arith, length_vehicles done, few, below, g.room.rounds, g.room.driven))

  -- ---- a slot more
  module _ (here : k < n) where
    abbrev route : List ℕ
    route = slot_at cells lens k

    abbrev many : ℕ
    many = get_or lens k 0

    pub slot_room : 101 * k + many ≤ length cells
    slot_room = omega (arith, g.room.long k here, g.room.most, g.room.celled)

    long_route : length route ≡ many
    long_route = length-take-le many (drop (k * 101) cells) (omega (arith, length-drop (k * 101) cells, slot_room))

    more : rounds_of v (slots_in (k + 1) cells lens) ≡ done ++ rounds_of v (route ∷ [])
    more = ap (rounds_of v) (slots_more k cells lens) ∙ rounds_append v (slots_in k cells lens) (route ∷ [])

    up_to : before + many ≤ all
    unfolding routed_stops
    up_to =
        let c = stops_append (slots_in k cells lens) (route ∷ []) in
        let a : routed_stops (slots_in (k + 1) cells lens) ≡ before + many = ap routed_stops (slots_more k cells lens) ∙ omega (arith, c, long_route) in
        let e : n ≡ k + 1 + (n - (k + 1)) = omega arith in
        let b = ap (λ (m : ℕ). routed_stops (slots_in m cells lens)) e in
        omega (arith, a, b, slots_below cells lens (k + 1) (n - (k + 1)))

    -- there is room for it, up to the last row
    pub fits : (f.routed + many ≤ 101) × (f.routed + many ≤ length stops)
    fits = (omega (arith, start_at_lem, up_to, g.room.few), omega (arith, start_at_lem, up_to, stops_long, g.room.stopped))

    -- its stops as the code lends them
    lent : take (101 * k + many - 101 * k) (drop (101 * k) cells) ≡ route
    lent =
        let m : 101 * k + many - 101 * k ≡ many = omega arith in
        let at : 101 * k ≡ k * 101 = omega arith in
        ap (λ (i : ℕ). take i (drop (101 * k) cells)) m ∙ ap (λ (i : ℕ). take many (drop i cells)) at

    -- a slot without stops makes no round
    module _ (none : many ≡ 0) where
      passed : rounds_of v (slots_in (k + 1) cells lens) ≡ done
      unfolding rounds_of
      passed = more ∙ ap (λ (r : List ℕ). done ++ rounds_of v (r ∷ [])) (ap (λ (m : ℕ). take m (drop (k * 101) cells)) none) ∙ append-nil done

      pub passes_on : Filling n cells lens v stops₀ ends₀ vehicles₀ f₀ stops ends vehicles f (k + 1)
      passes_on = record { room = g.room; within = omega arith; laid = rw passed g.laid; count = rw passed g.count }

    -- a slot with stops is closed as a round
    module _ (none : many ≡ 0 → ⊥) where
      some : 0 < many
      some = go many refl
        where
          go : (m : ℕ) → many ≡ m → 0 < many
          go zero z = absurd (none z)
          go (suc m) z = omega (arith, z)

      pub close_room : ((f.rounds < length ends) × (f.rounds < length vehicles)) × (f.routed + many ≤ 101)
      close_room = (
        (
          omega (arith, ends_long, rounds_at_lem, few, up_to, some, g.room.rounds, g.room.ended),
          omega (arith, vehicles_long, rounds_at_lem, few, up_to, some, g.room.rounds, g.room.driven),
        ),
        fits.0,
      )

      abbrev round : Round
      round = record { vehicle = v; stops = route }

      added : rounds_of v (slots_in (k + 1) cells lens) ≡ done ++ (round ∷ [])
      added = more ∙ ap (λ (l : List Round). done ++ l) (round_one v route (omega (arith, long_route, some)))

      closed : (stops' ends' vehicles' : List ℕ) (f' : Filled) → stops' ≡ write stops f.routed route
          → f' ≡ record { rounds = f.rounds + 1; routed = f.routed + many } → ends' ≡ write ends f.rounds ((f.routed + many) ∷ []) → vehicles' ≡ write vehicles f.rounds (v ∷ [])
          → Filling n cells lens v stops₀ ends₀ vehicles₀ f₀ stops' ends' vehicles' f' (k + 1)
      unfolding ends_from vehicles_from routed_in chains
      closed stops' ends' vehicles' f' p u q r =
          let ns : f.routed ≡ f₀.routed + length (chains done []) = omega (arith, start_at_lem, long_routed) in
          let one = enters_one ends₀ vehicles₀ f₀ done ends vehicles f (record { ended = g.laid.ended; driven = g.laid.driven; count = g.count }) round ends' vehicles' f' (f.routed + many) (omega (arith, ends_long, close_room.0.0)) (omega (arith, vehicles_long, close_room.0.1)) (omega (arith, long_route)) u q r in
          record {
            room = g.room;
            within = omega arith;
            laid = rw added (record {
              stopped =
                  p
                  ∙ ap (λ (m : ℕ). write stops m route) ns
                  ∙ ap (λ (l : List ℕ). write l (f₀.routed + length (chains done [])) route) g.laid.stopped
                  ∙ write_write stops₀ f₀.routed (chains done []) (omega (arith, long_routed, below, g.room.stopped)) route (omega (arith, long_routed, long_route, up_to, g.room.stopped))
                  ∙ ap (write stops₀ f₀.routed) (sym (chains_append done (round ∷ []) [] ∙ chains_aside done (route ++ []) ∙ ap (λ (l : List ℕ). chains done [] ++ l) (append-nil route)));
              ended = one.ended;
              driven = one.driven;
            });
            count = rw added one.count;
          }

      -- as the code copies it
      pub closes : (copied ends' vehicles' : List ℕ) (f' : Filled) → copied ≡ take (length (take (f.routed + many - f.routed) (drop f.routed stops))) (take (101 * k + many - 101 * k) (drop (101 * k) cells))
          → f' ≡ record { rounds = f.rounds + 1; routed = f.routed + many } → ends' ≡ write ends f.rounds ((f.routed + many) ∷ []) → vehicles' ≡ write vehicles f.rounds (v ∷ [])
          → Filling n cells lens v stops₀ ends₀ vehicles₀ f₀ (take f.routed stops ++ (copied ++ drop (f.routed + many - f.routed) (drop f.routed stops))) ends' vehicles' f' (k + 1)
      closes copied ends' vehicles' f' p u q r =
          let room = length-take-le (f.routed + many - f.routed) (drop f.routed stops) (omega (arith, length-drop f.routed stops, fits.1)) in
          let e : copied ≡ route = p ∙ rw lent (take_all _ route (omega (arith, long_route, room))) in
          closed _ ends' vehicles' f' (rw e (put_part stops f.routed (f.routed + many - f.routed) route (omega (arith, long_route)))) u q r
      -- ---- all slots are through

-- ---- the stops set aside, behind the rounds
module _ (v : ℕ) (routes : List (List ℕ)) (aside : List ℕ) {stops₀ ends₀ vehicles₀ : List ℕ} {f₀ : Filled} {stops ends vehicles : List ℕ} {f : Filled}
    (laid : Stored stops₀ ends₀ vehicles₀ f₀ (laid_so (rounds_of v routes) []) stops ends vehicles) (count : f ≡ filled_by f₀ (rounds_of v routes)) (room : f₀.routed + routed_stops routes + length aside ≤ length stops₀) where
  routed_to : f.routed ≡ f₀.routed + length (chains (rounds_of v routes) [])
  routed_to = ap (λ (x : Filled). x.routed) count ∙ ap (λ (m : ℕ). f₀.routed + m) (sym (length_routed (rounds_of v routes)))

  long_laid : length (chains (rounds_of v routes) []) ≡ routed_stops routes
  long_laid = length_routed (rounds_of v routes) ∙ rounds_routed v routes

  pub rounds_end : f.routed ≡ f₀.routed + routed_stops routes
  rounds_end = omega (arith, routed_to, long_laid)

  pub aside_room : f.routed + length aside ≤ length stops
  aside_room = omega (arith, rounds_end, long_laid, ap length laid.stopped, length_write stops₀ f₀.routed (chains (rounds_of v routes) []) (omega (arith, long_laid)))

  pub with_aside : (copied : List ℕ) → copied ≡ aside
      → Stored stops₀ ends₀ vehicles₀ f₀ (laid_so (rounds_of v routes) aside) (take f.routed stops ++ (copied ++ drop (f.routed + length aside - f.routed) (drop f.routed stops))) ends vehicles
  with_aside copied p = record {
    stopped =
        rw p (put_part stops f.routed (f.routed + length aside - f.routed) aside (omega arith))
        ∙ ap (λ (m : ℕ). write stops m aside) routed_to
        ∙ ap (λ (l : List ℕ). write l (f₀.routed + length (chains (rounds_of v routes) [])) aside) laid.stopped
        ∙ write_write stops₀ f₀.routed (chains (rounds_of v routes) []) (omega (arith, long_laid)) aside (omega (arith, long_laid))
        ∙ ap (write stops₀ f₀.routed) (sym (chains_aside (rounds_of v routes) aside));
    ended = laid.ended;
    driven = laid.driven;
  }
