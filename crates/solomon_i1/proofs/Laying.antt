-- The rounds of the seeds, laid down one after another: in the table of stops the rounds stand first, then the stops left, then those set aside. Assumes nothing.
use mathlib.Core.Path.{◌≡◌, refl, sym, ap, ◌∙◌}
use Prim.Native.Nat.{ℕ, suc, ◌+◌, ◌-◌, ◌≤◌, ◌<◌}
use native.Mathlib.Nat.{zero-lt-suc}
use native.Mathlib.Omega.{arith}
use mathlib.Core.Bool.{Bool, true, false}
use mathlib.Core.List.{List, [], ◌∷◌, ◌++◌, append_assoc, append-nil}
use lib.ListN.{length, get_or, take, drop, length-append, length-drop, get_or-append, take-append-drop}
use lib.Seq.{take_at, drop_at, take-append-le, drop-append-le, get_or-append-add, append_snoc, drop-length, drop-drop, length-take-le}
use Rattle.std.proofs.lemmas.List.{nil_from_length}
use Rattle.lists.specs.Every.{Every}
use Rattle.lists.specs.Moved.{without}
use Rattle.lists.specs.Laws.Moved.{without_length, without_every, inserted_length}
use Rattle.wire.specs.Bytes.{write}
use Rattle.sheet.specs.Accepted.{Accepted}
use Rattle.sheet.specs.Fields.{rows_of}
use Rattle.evaluation.specs.Routed.{Routed}
use Rattle.constructive.specs.declared.tables.Filled.{Filled}
use Rattle.constructive.specs.Outcome.{Round, Outcome, chains, stops_of}
use Rattle.constructive.specs.Members.{part}
use Rattle.constructive.specs.Laws.TableContents.{part_long}
use Rattle.constructive.specs.Stored.{routed_in, Room}
use Rattle.constructive.specs.Laws.Stored.{chains_aside, chains_append, length_chains, routed_append}
use Rattle.constructive.specs.Entered.{Entered}
use Rattle.constructive.specs.Laws.Entered.{enters_none, rounds_at_lem, routed_at, ends_long, vehicles_long, enters_one}
use Rattle.constructive.specs.declared.terms.Terms.{Terms}
use Rattle.insertion.specs.Trial.{Joinable}
use Rattle.solomon_i1.specs.Insertion.{seed_of, goes_alone, Growth, growing, route_in, left_in, round_from, Step, step_with, step_from, seed_step, left_by, plan_by, plan_on}
use Rattle.solomon_i1.specs.Laws.Grown.{grow_on_kept}
use Rattle.solomon_i1.specs.Laws.Planned.{seed_place, round_fewer, step_fewer, enough}
use Rattle.solomon_i1.specs.Tabled.{growth_stops}
use Rattle.solomon_i1.proofs.Grows.{without_behind, joinable_so}

-- ---- a seed's round and the stops that it leaves
module _ (s : List ℕ) (t : Terms) (seed : ℕ) (left : List ℕ) where
  pub round_long : length (route_in (round_from s t seed left)) + length (left_in (round_from s t seed left)) ≡ suc (length left)
  round_long =
      grow_on_kept s t (λ route rest. length route + length rest ≡ suc (length left))
      (λ route rest j k h p e. omega (arith, inserted_length k (get_or rest j 0) route, without_length rest j h, e))
      (length left) (growing (seed ∷ []) left) (omega arith)

  pub round_some : 0 < length (route_in (round_from s t seed left))
  round_some = omega (arith, round_long, round_fewer s t seed left)

  round_every : (P : ℕ → Type 0) → Every P left → Every P (left_in (round_from s t seed left))
  round_every P e = grow_on_kept s t (λ route rest. Every P rest) (λ route rest j k h p q. without_every P rest j q) (length left) (growing (seed ∷ []) left) e

-- ---- the definition, a seed further
plan_step : (s : List ℕ) (t : Terms) (left : List ℕ) → 0 < length left
    → plan_on s t (length left) left ≡ plan_by t.vehicle (seed_step s t left) (plan_on s t (length (left_by (seed_step s t left))) (left_by (seed_step s t left)))
unfolding plan_on
plan_step s t [] h = absurd (omega (arith, h))
plan_step s t (row ∷ rows) h =
    let x = seed_step s t (row ∷ rows) in
    ap (plan_by t.vehicle x) (enough s t (length rows) (length (left_by x)) (left_by x) (omega (arith, step_fewer s t (row ∷ rows) (zero-lt-suc (length rows)))) (omega arith))

-- so as what becomes of the seed
plan_seed : (s : List ℕ) (t : Terms) (left : List ℕ) → 0 < length left → (seed : ℕ) → seed ≡ seed_of s t.depot left → (b : Bool) → goes_alone s t (get_or left seed 0) ≡ b
    → let x = step_with s t b (get_or left seed 0) (without seed left) in plan_on s t (length left) left ≡ plan_by t.vehicle x (plan_on s t (length (left_by x)) (left_by x))
unfolding seed_step
plan_seed s t left h seed e b u =
    plan_step s t left h
    ∙ ap (λ (x : Step). plan_by t.vehicle x (plan_on s t (length (left_by x)) (left_by x)))
    (ap (λ (j : ℕ). step_from s t (get_or left j 0) (without j left)) (sym e) ∙ ap (λ (b : Bool). step_with s t b (get_or left seed 0) (without seed left)) u)

-- ---- the table
-- a stop sent last
sent : (stops : List ℕ) (from x : ℕ) → from < length stops → write stops from (drop (from + 1) stops ++ (x ∷ [])) ≡ without from stops ++ (x ∷ [])
unfolding write
sent stops from x h =
    let long : from + length (drop (from + 1) stops ++ (x ∷ [])) ≡ length stops = omega (arith, length-append (drop (from + 1) stops) (x ∷ []), length-drop (from + 1) stops) in
    rw (long, drop-length stops, append-nil (drop (from + 1) stops ++ (x ∷ []))) (sym (append_assoc (take from stops) (drop (from + 1) stops) (x ∷ [])))

-- from between those before and behind
without_between : (routed left aside : List ℕ) (j : ℕ) → j < length left → without (length routed + j) (routed ++ (left ++ aside)) ≡ routed ++ (without j left ++ aside)
without_between routed left aside j h =
    without_behind routed (left ++ aside) j
    ∙ ap (◌++◌ routed) (rw (take-append-le j left aside (omega arith), drop-append-le (j + 1) left aside (omega arith)) (sym (append_assoc (take j left) (drop (j + 1) left) aside)))

-- what stands where the stops left stood
between : (routed left aside new : List ℕ) (at n : ℕ) → length routed ≡ at → length left ≡ n → take at (routed ++ (left ++ aside)) ++ (new ++ drop n (drop at (routed ++ (left ++ aside)))) ≡ routed ++ (new ++ aside)
between routed left aside new at n e f = rw (take_at routed (left ++ aside) at e, drop_at routed (left ++ aside) at e, drop_at left aside n f)

-- ---- what holds at the head of the loop
-- rounds and stops set aside, before an outcome's
abbrev joined : List Round → List ℕ → Outcome → Outcome
joined done aside o = record { rounds = done ++ o.rounds; aside = aside ++ o.aside }

pub record Laying (s : List ℕ) (t : Terms) (stops₀ ends₀ vehicles₀ trial₀ : List ℕ) (f₀ : Filled) (total : ℕ) (stops ends vehicles trial : List ℕ) (f : Filled) (at end : ℕ) : Type 0 where
  pub few : total ≤ 101
  pub from : f₀.routed ≤ total
  pub inside : total ≤ length stops₀
  pub wide : total - f₀.routed ≤ length trial₀
  pub room : Room ends₀ vehicles₀ f₀ total
  pub tried : length trial ≡ length trial₀
  pub done : List Round
  pub left : List ℕ
  pub aside : List ℕ
  pub laid : stops ≡ (take f₀.routed stops₀ ++ chains done []) ++ (left ++ (aside ++ drop total stops₀))
  pub entered : Entered ends₀ vehicles₀ f₀ done ends vehicles f
  pub here : at ≡ f₀.routed + routed_in done
  pub last : end ≡ at + length left
  pub all : end + length aside ≡ total
  pub each : length done ≤ routed_in done
  pub joinable : Joinable s t [] left
  pub same : plan_on s t (length (part stops₀ f₀.routed total)) (part stops₀ f₀.routed total) ≡ joined done aside (plan_on s t (length left) left)

-- a table in three parts
in_parts : (stops : List ℕ) (start total : ℕ) → start ≤ total → stops ≡ take start stops ++ (part stops start total ++ drop total stops)
in_parts stops start total h =
    let e : start + (total - start) ≡ total = omega arith in
    sym (take-append-drop start stops)
    ∙ ap (◌++◌ (take start stops)) (sym (take-append-drop (total - start) (drop start stops)) ∙ ap (◌++◌ (part stops start total)) (drop-drop (total - start) start stops ∙ ap (λ (n : ℕ). drop n stops) e))

pub begins : (s : List ℕ) (t : Terms) (stops ends vehicles trial : List ℕ) (f : Filled) (total : ℕ) → Joinable s t [] (part stops f.routed total) → total ≤ 101 → f.routed ≤ total → total ≤ length stops → total - f.routed ≤ length trial → Room ends vehicles f total
    → Laying s t stops ends vehicles trial f total stops ends vehicles trial f f.routed total
unfolding chains routed_in
begins s t stops ends vehicles trial f total ok h from inside l room = record {
  few = h;
  from = from;
  inside = inside;
  wide = l;
  room = room;
  tried = refl;
  done = [];
  left = part stops f.routed total;
  aside = [];
  laid = rw (append-nil (take f.routed stops)) (in_parts stops f.routed total from);
  entered = enters_none ends vehicles f (omega (arith, room.rounds, room.ended)) (omega (arith, room.rounds, room.driven));
  here = omega arith;
  last = omega (arith, part_long stops f.routed total inside);
  all = omega arith;
  each = omega arith;
  joinable = ok;
  same = refl;
}

module _ (s : List ℕ) (t : Terms) (stops₀ ends₀ vehicles₀ trial₀ : List ℕ) (f₀ : Filled) (total : ℕ) (stops ends vehicles trial : List ℕ) (f : Filled) (at end : ℕ)
    (g : Laying s t stops₀ ends₀ vehicles₀ trial₀ f₀ total stops ends vehicles trial f at end) where
  abbrev members : List ℕ
  members = part stops₀ f₀.routed total

  -- what stands before the members, and behind them
  abbrev before : List ℕ
  before = take f₀.routed stops₀

  abbrev behind : List ℕ
  behind = drop total stops₀

  abbrev routed : List ℕ
  routed = before ++ chains g.done []

  before_long : length before ≡ f₀.routed
  before_long = length-take-le f₀.routed stops₀ (omega (arith, g.from, g.inside))

  routed_long : length routed ≡ at
  routed_long = length-append before (chains g.done []) ∙ omega (arith, before_long, length_chains g.done [], g.here)

  -- the table up to the stops behind the members
  abbrev front : List ℕ
  front = routed ++ (g.left ++ g.aside)

  front_long : length front ≡ total
  front_long = omega (arith, length-append routed (g.left ++ g.aside), length-append g.left g.aside, routed_long, g.last, g.all)

  in_two : stops ≡ front ++ behind
  in_two = g.laid ∙ sym (append_assoc routed (g.left ++ g.aside) behind ∙ ap (◌++◌ routed) (append_assoc g.left g.aside behind))

  front_told : take total stops ≡ front
  front_told = rw in_two (take_at front behind total front_long)

  behind_told : drop total stops ≡ behind
  behind_told = rw in_two (drop_at front behind total front_long)

  pub stops_long : length stops ≡ length stops₀
  stops_long = ap length in_two ∙ omega (arith, length-append front behind, front_long, length-drop total stops₀, g.inside)

  -- no more rounds than stops on them, so there is room for each
  rounds_room : f.rounds ≤ at
  rounds_room = omega (arith, rounds_at_lem _ _ _ _ _ _ _ g.entered, g.room.rounds, g.each, g.here)

  pub ends_kept : length ends ≡ length ends₀
  ends_kept = ends_long _ _ _ _ _ _ _ g.entered (omega (arith, rounds_room, g.room.ended, g.last, g.all))

  pub vehicles_kept : length vehicles ≡ length vehicles₀
  vehicles_kept = vehicles_long _ _ _ _ _ _ _ g.entered (omega (arith, rounds_room, g.room.driven, g.last, g.all))

  pub within : end ≤ length stops
  within = omega (arith, stops_long, g.all, g.inside)

  pub total_within : total ≤ length stops
  total_within = omega (arith, stops_long, g.inside)

  pub most : end ≤ 101
  most = omega (arith, g.all, g.few)

  left_part : part stops at end ≡ g.left
  left_part =
      let n : length g.left ≡ end - at = omega (arith, g.last) in
      rw (g.laid, drop_at routed (g.left ++ (g.aside ++ behind)) at routed_long) (take_at g.left (g.aside ++ behind) (end - at) n)

  pub left_routed : Routed s t.depot (part stops at end)
  left_routed = rw left_part g.joinable.unrouted

  -- ---- a seed more
  module _ (some : at < end) (seed : ℕ) (e : seed ≡ seed_of s t.depot (part stops at end)) where
    left_some : 0 < length g.left
    left_some = omega (arith, g.last)

    seed_told : seed ≡ seed_of s t.depot g.left
    seed_told = e ∙ ap (seed_of s t.depot) left_part

    inside : seed < length g.left
    inside = rw seed_told (seed_place s t.depot g.left left_some)

    pub seed_in_lem : at + seed < length stops
    seed_in_lem = omega (arith, inside, g.last, within)

    pub seed_in_front : at + seed < total
    seed_in_front = omega (arith, inside, g.last, g.all)

    seed_at : get_or stops (at + seed) 0 ≡ get_or g.left seed 0
    seed_at =
        rw (g.laid, ← routed_long) (get_or-append-add routed (g.left ++ (g.aside ++ behind)) seed 0)
        ∙ get_or-append g.left (g.aside ++ behind) 0 seed inside

    seed_there : get_or front (at + seed) 0 ≡ get_or g.left seed 0
    seed_there =
        rw (← routed_long) (get_or-append-add routed (g.left ++ g.aside) seed 0)
        ∙ get_or-append g.left g.aside 0 seed inside

    pub seed_row : get_or stops (at + seed) 0 < rows_of s
    seed_row = rw seed_at (g.joinable.unrouted.row seed inside)

    pub known : Accepted s × ((t.depot < rows_of s) × (get_or stops (at + seed) 0 < rows_of s))
    known = (g.joinable.unrouted.sheet, (g.joinable.unrouted.home, seed_row))

    alone : (b c : Bool) → b ≡ goes_alone s t (get_or stops (at + seed) 0) → b ≡ c → goes_alone s t (get_or g.left seed 0) ≡ c
    alone b c u v = ap (goes_alone s t) (sym seed_at) ∙ sym u ∙ v

    -- ---- it is set aside
    module _ (b : Bool) (u : b ≡ goes_alone s t (get_or stops (at + seed) 0)) (v : b ≡ false) where
      abbrev row : ℕ
      row = get_or g.left seed 0

      abbrev sends : List ℕ → List ℕ → Type 0
      sends table new = new ≡ write table (at + seed) (drop (at + seed + 1) table ++ (get_or table (at + seed) 0 ∷ []))

      sent_front : (new : List ℕ) → sends (take total stops) new → new ≡ routed ++ (without seed g.left ++ (g.aside ++ (row ∷ [])))
      sent_front new p =
          p
          ∙ ap (λ (l : List ℕ). write l (at + seed) (drop (at + seed + 1) l ++ (get_or l (at + seed) 0 ∷ []))) front_told
          ∙ sent front (at + seed) (get_or front (at + seed) 0) (omega (arith, front_long, seed_in_front))
          ∙ ap (λ (x : ℕ). without (at + seed) front ++ (x ∷ [])) seed_there
          ∙ ap (λ (n : ℕ). without (n + seed) front ++ (row ∷ [])) (sym routed_long)
          ∙ ap (λ (l : List ℕ). l ++ (row ∷ [])) (without_between routed g.left g.aside seed inside)
          ∙ simp append_assoc

      sent_so : (new : List ℕ) → sends (take total stops) new → new ++ drop total stops ≡ routed ++ (without seed g.left ++ ((g.aside ++ (row ∷ [])) ++ behind))
      sent_so new p = rw (behind_told, sent_front new p) (simp append_assoc)

      pub goes_aside : (new : List ℕ) → new ≡ write (take total stops) (at + seed) (drop (at + seed + 1) (take total stops) ++ (get_or (take total stops) (at + seed) 0 ∷ []))
          → Laying s t stops₀ ends₀ vehicles₀ trial₀ f₀ total (new ++ drop total stops) ends vehicles trial f at (end - 1)
      goes_aside new p =
          let n = without_length g.left seed inside in
          record {
            few = g.few;
            from = g.from;
            inside = g.inside;
            wide = g.wide;
            room = g.room;
            tried = g.tried;
            done = g.done;
            left = without seed g.left;
            aside = g.aside ++ (row ∷ []);
            laid = sent_so new p;
            entered = g.entered;
            here = g.here;
            last = omega (arith, g.last, n);
            all = omega (arith, g.all, g.last, n, length-append g.aside (row ∷ []));
            each = g.each;
            joinable = joinable_so s t g.left (without seed g.left) (omega (arith, n)) (λ P q. without_every P g.left seed q) g.joinable;
            same =
                g.same
                ∙ ap (joined g.done g.aside) (plan_seed s t g.left left_some seed seed_told false (alone b false u v))
                ∙ ap (λ (l : List ℕ). record { rounds = g.done ++ (plan_on s t (length (without seed g.left)) (without seed g.left)).rounds; aside = l })
                (sym (append_snoc g.aside row (plan_on s t (length (without seed g.left)) (without seed g.left)).aside));
          }

    -- ---- it opens a round
    pub left_joinable : Joinable s t [] (part stops at end)
    left_joinable = rw left_part g.joinable

    pub left_seed : seed < length (part stops at end)
    left_seed = rw left_part inside

    pub left_room : length (part stops at end) ≤ length trial
    left_room = rw left_part (omega (arith, g.wide, g.tried, g.all, g.last, g.here))

    module _ (n : ℕ) (q : n ≡ length (route_in (round_from s t (get_or (part stops at end) seed 0) (without seed (part stops at end))))) where
      abbrev grown : Growth
      grown = round_from s t (get_or g.left seed 0) (without seed g.left)

      n_told : n ≡ length (route_in grown)
      n_told = q ∙ ap (λ (l : List ℕ). length (route_in (round_from s t (get_or l seed 0) (without seed l)))) left_part

      both_long : length (route_in grown) + length (left_in grown) ≡ length g.left
      both_long = round_long s t (get_or g.left seed 0) (without seed g.left) ∙ without_length g.left seed inside

      pub grown_some : 0 < n
      grown_some = omega (arith, n_told, round_some s t (get_or g.left seed 0) (without seed g.left))

      pub grown_within : at + n ≤ end
      grown_within = omega (arith, n_told, both_long, g.last)

      pub close_room : ((f.rounds < length ends) × (f.rounds < length vehicles)) × (at + n ≤ 101)
      close_room = (
        (
          omega (arith, rounds_room, ends_kept, g.room.ended, grown_some, grown_within, g.all),
          omega (arith, rounds_room, vehicles_kept, g.room.driven, grown_some, grown_within, g.all),
        ),
        omega (arith, grown_within, most),
      )

      module _ (b : Bool) (u : b ≡ goes_alone s t (get_or stops (at + seed) 0)) (c : b ≡ true) where
        abbrev round : Round
        round = record { vehicle = t.vehicle; stops = route_in grown }

        grown_so : (stops' new : List ℕ) → new ≡ growth_stops (round_from s t (get_or (part stops at end) seed 0) (without seed (part stops at end))) → stops' ≡ take at stops ++ (new ++ drop (end - at) (drop at stops))
            → stops' ≡ (before ++ chains (g.done ++ (round ∷ [])) []) ++ (left_in grown ++ (g.aside ++ behind))
        unfolding chains
        grown_so stops' new p r =
            let k : length g.left ≡ end - at = omega (arith, g.last) in
            r
            ∙ ap (λ (l : List ℕ). take at l ++ (new ++ drop (end - at) (drop at l))) g.laid
            ∙ between routed g.left (g.aside ++ behind) new at (end - at) routed_long k
            ∙ ap (λ (l : List ℕ). routed ++ (l ++ (g.aside ++ behind))) (p ∙ ap (λ (l : List ℕ). growth_stops (round_from s t (get_or l seed 0) (without seed l))) left_part)
            ∙ sym (ap (λ (l : List ℕ). (before ++ l) ++ (left_in grown ++ (g.aside ++ behind))) (chains_append g.done (round ∷ []) [] ∙ chains_aside g.done (route_in grown ++ [])) ∙ simp (append_assoc, append-nil))

        pub goes_round : (stops' new ends' vehicles' trial' : List ℕ) (f' : Filled) → new ≡ growth_stops (round_from s t (get_or (part stops at end) seed 0) (without seed (part stops at end)))
            → stops' ≡ take at stops ++ (new ++ drop (end - at) (drop at stops)) → length trial' ≡ length trial → f' ≡ record { rounds = f.rounds + 1; routed = at + n }
            → ends' ≡ write ends f.rounds ((at + n) ∷ []) → vehicles' ≡ write vehicles f.rounds (t.vehicle ∷ [])
            → Laying s t stops₀ ends₀ vehicles₀ trial₀ f₀ total stops' ends' vehicles' trial' f' (at + n) end
        unfolding routed_in
        goes_round stops' new ends' vehicles' trial' f' p r v w x y =
            let more : routed_in (g.done ++ (round ∷ [])) ≡ routed_in g.done + length (route_in grown) = routed_append g.done (round ∷ []) ∙ omega arith in
            record {
              few = g.few;
              from = g.from;
              inside = g.inside;
              wide = g.wide;
              room = g.room;
              tried = v ∙ g.tried;
              done = g.done ++ (round ∷ []);
              left = left_in grown;
              aside = g.aside;
              laid = grown_so stops' new p r;
              entered =
                  enters_one _ _ _ _ _ _ _ g.entered round ends' vehicles' f' (at + n) (omega (arith, close_room.0.0, ends_kept)) (omega (arith, close_room.0.1, vehicles_kept))
                  (omega (arith, routed_at _ _ _ _ _ _ _ g.entered, n_told, g.here)) w x y;
              here = omega (arith, g.here, n_told, more);
              last = omega (arith, g.last, n_told, both_long);
              all = g.all;
              each = omega (arith, g.each, more, length-append g.done (round ∷ []), n_told, grown_some);
              joinable =
                  joinable_so s t g.left (left_in grown) (omega (arith, both_long))
                  (λ P q. round_every s t (get_or g.left seed 0) (without seed g.left) P (without_every P g.left seed q)) g.joinable;
              same =
                  g.same
                  ∙ ap (joined g.done g.aside) (plan_seed s t g.left left_some seed seed_told true (alone b true u c))
                  ∙ ap (λ (rs : List Round). record { rounds = rs; aside = g.aside ++ (plan_on s t (length (left_in grown)) (left_in grown)).aside })
                  (sym (append_snoc g.done round (plan_on s t (length (left_in grown)) (left_in grown)).rounds));
            }

  -- ---- no stop is left
  pub ends_all : end ≤ at → plan_on s t (length members) members ≡ record { rounds = g.done; aside = g.aside }
  unfolding plan_on
  ends_all h =
      let n : length g.left ≡ 0 = omega (arith, g.last) in
      g.same ∙ ap (λ (m : ℕ). joined g.done g.aside (plan_on s t m g.left)) n ∙ rw (append-nil g.done, append-nil g.aside)

  none_left : end ≤ at → g.left ≡ []
  none_left h = nil_from_length g.left (omega (arith, g.last))

  pub ends_entered : end ≤ at → Entered ends₀ vehicles₀ f₀ (plan_on s t (length members) members).rounds ends vehicles f
  ends_entered h = rw (ends_all h) g.entered

  all_long : end ≤ at → f₀.routed + length (chains g.done g.aside) ≡ total
  all_long h = omega (arith, length_chains g.done g.aside, g.here, g.last, g.all)

  pub ends_laid : end ≤ at → stops ≡ write stops₀ f₀.routed (stops_of (plan_on s t (length members) members))
  unfolding write
  ends_laid h =
      rw (ends_all h, all_long h)
      (g.laid
      ∙ ap (λ (l : List ℕ). routed ++ (l ++ (g.aside ++ behind))) (none_left h)
      ∙ append_assoc before (chains g.done []) (g.aside ++ behind)
      ∙ ap (◌++◌ before) (sym (append_assoc (chains g.done []) g.aside behind) ∙ ap (λ (l : List ℕ). l ++ behind) (sym (chains_aside g.done g.aside))))
