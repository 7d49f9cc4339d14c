-- The rounds of a fleet, laid down one after another. Assumes nothing.
use mathlib.Core.Path.{◌≡◌, refl, sym, ap, ◌∙◌}
use Prim.Native.Nat.{ℕ, zero, suc, ◌+◌, ◌-◌, ◌≤◌, ◌<◌}
use native.Mathlib.Nat.{add-zero}
use native.Mathlib.Numerals.{add-one}
use native.Mathlib.Omega.{arith}
use mathlib.Core.List.{List, [], ◌∷◌, ◌++◌, append-nil}
use lib.ListN.{length, get_or, take, drop, length-append, length-drop}
use lib.Seq.{length-take-le, drop-cons, drop-length, append_snoc}
use Rattle.std.proofs.lemmas.List.{nil_from_length}
use Rattle.lists.specs.Every.{Every}
use Rattle.lists.specs.Laws.Every.{every_of, every_at}
use Rattle.wire.specs.Bytes.{write}
use Rattle.wire.specs.Laws.Bytes.{length_write}
use Rattle.wire.specs.Laws.Overwrite.{write_same, part_write, write_over}
use Rattle.sheet.specs.Fields.{rows_of}
use Rattle.constructive.specs.declared.tables.Filled.{Filled}
use Rattle.constructive.specs.Outcome.{Round, Outcome, chains}
use Rattle.constructive.specs.Members.{part, Members, Fleet}
use Rattle.constructive.specs.Stored.{ends_from, vehicles_from, routed_in, filled_by, Stored, Room}
use Rattle.constructive.specs.Laws.Entered.{enters_one}
use Rattle.constructive.specs.Laws.Stored.{chains_aside, chains_append, length_chains, length_ends, length_vehicles, routed_append}
use Rattle.nearest_neighbor_choice.specs.Heuristic.{Heuristic}
use Rattle.nearest_neighbor.specs.Greedy.{Grown, vehicle_round, with_stops, round_then, greedy}
use Rattle.nearest_neighbor.specs.Heuristic.{rule_of}
use Rattle.nearest_neighbor.proofs.Leaving.{joins, round_long, round_every}

-- rounds before an outcome's
abbrev pub joined : List Round → Outcome → Outcome
joined done o = record { rounds = done ++ o.rounds; aside = o.aside }

abbrev pub laid_so : List Round → List ℕ → Outcome
laid_so done left = record { rounds = done; aside = left }

pub record Laying (s : List ℕ) (depot : ℕ) (h : Heuristic) (fleet stops₀ ends₀ vehicles₀ : List ℕ) (f₀ : Filled) (total : ℕ) (stops ends vehicles : List ℕ) (f : Filled) (k end : ℕ) : Type 0 where
  pub members : Members s depot stops₀ f₀.routed total
  pub room : Room ends₀ vehicles₀ f₀ total
  pub known : Fleet s fleet
  pub last : end ≡ length fleet
  pub within : k ≤ end
  pub done : List Round
  pub left : List ℕ
  pub laid : Stored stops₀ ends₀ vehicles₀ f₀ (laid_so done left) stops ends vehicles
  pub count : f ≡ filled_by f₀ done
  pub all : f₀.routed + routed_in done + length left ≡ total
  pub each : length done ≤ routed_in done
  pub rows : Every (λ (i : ℕ). i < rows_of s) left
  pub same : greedy (rule_of s depot h) depot fleet (part stops₀ f₀.routed total) ≡ joined done (greedy (rule_of s depot h) depot (drop k fleet) left)

-- what is laid down at first: the members, on no round yet
pub begins : (s : List ℕ) (depot : ℕ) (h : Heuristic) (fleet stops ends vehicles : List ℕ) (f : Filled) (total : ℕ) → Members s depot stops f.routed total → Room ends vehicles f total → Fleet s fleet
    → Laying s depot h fleet stops ends vehicles f total stops ends vehicles f 0 (length fleet)
unfolding ends_from vehicles_from routed_in chains
begins s depot h fleet stops ends vehicles f total ok room known =
    let long : length (part stops f.routed total) ≡ total - f.routed = length-take-le (total - f.routed) (drop f.routed stops) (omega (arith, length-drop f.routed stops, ok.within, ok.from)) in
    record {
      members = ok;
      room = room;
      known = known;
      last = refl;
      within = omega arith;
      done = [];
      left = part stops f.routed total;
      laid = record {
        stopped = sym (write_same stops f.routed (total - f.routed) (omega (arith, ok.within, ok.from)));
        ended = sym (write_same ends f.rounds 0 (omega (arith, room.rounds, room.ended, ok.from)));
        driven = sym (write_same vehicles f.rounds 0 (omega (arith, room.rounds, room.driven, ok.from)));
      };
      count = rw (add-zero f.rounds, add-zero f.routed);
      all = omega (arith, long, ok.from);
      each = omega arith;
      rows = every_of (λ (i : ℕ). i < rows_of s) 0 (part stops f.routed total) ok.routed.row;
      same = refl;
    }

module _ (s : List ℕ) (depot : ℕ) (h : Heuristic) (fleet stops₀ ends₀ vehicles₀ : List ℕ) (f₀ : Filled) (total : ℕ) (stops ends vehicles : List ℕ) (f : Filled) (k end : ℕ)
    (g : Laying s depot h fleet stops₀ ends₀ vehicles₀ f₀ total stops ends vehicles f k end) where
  abbrev routed : List ℕ
  routed = chains g.done []

  long_routed : length routed ≡ routed_in g.done
  long_routed = length_chains g.done [] ∙ omega arith

  start_at_lem : f.routed ≡ f₀.routed + routed_in g.done
  start_at_lem = ap (λ (x : Filled). x.routed) g.count

  rounds_at_lem : f.rounds ≡ f₀.rounds + length g.done
  rounds_at_lem = ap (λ (x : Filled). x.rounds) g.count

  stopped : stops ≡ write stops₀ f₀.routed (routed ++ g.left)
  stopped = g.laid.stopped ∙ ap (write stops₀ f₀.routed) (chains_aside g.done g.left)

  fits : f₀.routed + length (routed ++ g.left) ≤ length stops₀
  fits = omega (arith, length-append routed g.left, long_routed, g.all, g.members.within)

  pub stops_long : length stops ≡ length stops₀
  stops_long = ap length stopped ∙ length_write stops₀ f₀.routed (routed ++ g.left) fits

  pub ends_long : length ends ≡ length ends₀
  ends_long = ap length g.laid.ended ∙ length_write ends₀ f₀.rounds (ends_from f₀.routed g.done) (omega (arith, length_ends f₀.routed g.done, g.each, g.all, g.room.rounds, g.room.ended))

  pub vehicles_long : length vehicles ≡ length vehicles₀
  vehicles_long = ap length g.laid.driven ∙ length_write vehicles₀ f₀.rounds (vehicles_from g.done) (omega (arith, length_vehicles g.done, g.each, g.all, g.room.rounds, g.room.driven))

  -- the stops left stand where the tables are filled to, up to `total`
  pub left_part : part stops f.routed total ≡ g.left
  left_part =
      let n : total - f.routed ≡ length g.left = omega (arith, start_at_lem, g.all) in
      let at : f.routed ≡ f₀.routed + length routed = omega (arith, start_at_lem, long_routed) in
      ap (λ (m : ℕ). take m (drop f.routed stops)) n
      ∙ ap (λ (m : ℕ). take (length g.left) (drop m stops)) at
      ∙ ap (λ (l : List ℕ). take (length g.left) (drop (f₀.routed + length routed) l)) stopped
      ∙ part_write stops₀ f₀.routed routed g.left fits

  pub left_members : Members s depot stops f.routed total
  left_members = record {
    routed = rw left_part (record {
      sheet = g.members.routed.sheet;
      home = g.members.routed.home;
      few = omega (arith, g.all, g.members.most);
      row = λ i l. every_at (λ (i : ℕ). i < rows_of s) 0 g.left i l g.rows;
    });
    from = omega (arith, start_at_lem, g.all);
    most = g.members.most;
    within = omega (arith, stops_long, g.members.within);
  }

  -- ---- a vehicle more
  module _ (here : k < end) where
    abbrev index : ℕ
    index = get_or fleet k 0

    abbrev grown : Grown
    grown = vehicle_round (rule_of s depot h index) depot g.left

    long : length grown.stops + length grown.left ≡ length g.left
    long = round_long (rule_of s depot h index) (joins s depot h index) depot g.left

    one_more : greedy (rule_of s depot h) depot fleet (part stops₀ f₀.routed total) ≡ joined g.done (round_then index grown.stops (greedy (rule_of s depot h) depot (drop (k + 1) fleet) grown.left))
    unfolding greedy
    one_more = let l : k < length fleet = omega (arith, g.last) in
        g.same ∙ ap (λ (v : List ℕ). joined g.done (greedy (rule_of s depot h) depot v g.left)) (drop-cons fleet k 0 l ∙ ap (λ (n : ℕ). index ∷ drop n fleet) (sym (add-one k)))

    module _ (stops' : List ℕ) (p : stops' ≡ write stops f.routed (grown.stops ++ grown.left)) where
      stopped_on : stops' ≡ write stops₀ f₀.routed (routed ++ (grown.stops ++ grown.left))
      stopped_on =
          let at : f.routed ≡ f₀.routed + length routed = omega (arith, start_at_lem, long_routed) in
          p
          ∙ ap (λ (l : List ℕ). write l f.routed (grown.stops ++ grown.left)) stopped
          ∙ ap (λ (n : ℕ). write (write stops₀ f₀.routed (routed ++ g.left)) n (grown.stops ++ grown.left)) at
          ∙ write_over stops₀ f₀.routed routed g.left fits (grown.stops ++ grown.left) (length-append grown.stops grown.left ∙ long)

      -- its round has no stop
      module _ (none : grown.stops ≡ []) where
        pub passed : Laying s depot h fleet stops₀ ends₀ vehicles₀ f₀ total stops' ends vehicles f (k + 1) end
        passed = record {
          members = g.members;
          room = g.room;
          known = g.known;
          last = g.last;
          within = omega arith;
          done = g.done;
          left = grown.left;
          laid = record {
            stopped = stopped_on ∙ ap (λ (l : List ℕ). write stops₀ f₀.routed (routed ++ (l ++ grown.left))) none ∙ ap (write stops₀ f₀.routed) (sym (chains_aside g.done grown.left));
            ended = g.laid.ended;
            driven = g.laid.driven;
          };
          count = g.count;
          all = let e = ap length none in omega (arith, g.all, long, e);
          each = g.each;
          rows = round_every (λ (i : ℕ). i < rows_of s) (rule_of s depot h index) depot g.left g.rows;
          same = one_more ∙ ap (λ (l : List ℕ). joined g.done (round_then index l (greedy (rule_of s depot h) depot (drop (k + 1) fleet) grown.left))) none;
        }

      -- its round is closed
      module _ (some : 0 < length grown.stops) where
        abbrev round : Round
        round = record { vehicle = index; stops = grown.stops }

        with_some : (stops : List ℕ) → 0 < length stops → (rs : List Round) → with_stops index stops rs ≡ record { vehicle = index; stops = stops } ∷ rs
        with_some [] u rs = absurd (omega arith)
        with_some (row ∷ rows) u rs = refl

        pub roomy : (f.rounds < length ends) × (f.rounds < length vehicles)
        roomy = (
          omega (arith, ends_long, rounds_at_lem, g.each, g.all, g.room.rounds, g.room.ended, long, some),
          omega (arith, vehicles_long, rounds_at_lem, g.each, g.all, g.room.rounds, g.room.driven, long, some),
        )

        pub closed : (ends' vehicles' : List ℕ) (at : ℕ) (f' : Filled) → at ≡ f.routed + length grown.stops → f' ≡ record { rounds = f.rounds + 1; routed = at } → ends' ≡ write ends f.rounds (at ∷ []) → vehicles' ≡ write vehicles f.rounds (index ∷ [])
            → Laying s depot h fleet stops₀ ends₀ vehicles₀ f₀ total stops' ends' vehicles' f' (k + 1) end
        unfolding ends_from vehicles_from routed_in chains
        closed ends' vehicles' at f' e u p q =
            let more : routed_in (g.done ++ (round ∷ [])) ≡ routed_in g.done + length grown.stops = routed_append g.done (round ∷ []) ∙ omega arith in
            let many : length (g.done ++ (round ∷ [])) ≡ length g.done + 1 = length-append g.done (round ∷ []) in
            let one = enters_one ends₀ vehicles₀ f₀ g.done ends vehicles f (record { ended = g.laid.ended; driven = g.laid.driven; count = g.count }) round ends' vehicles' f' at (omega (arith, ends_long, roomy.0)) (omega (arith, vehicles_long, roomy.1)) e u p q in
            record {
              members = g.members;
              room = g.room;
              known = g.known;
              last = g.last;
              within = omega arith;
              done = g.done ++ (round ∷ []);
              left = grown.left;
              laid = record {
                stopped = stopped_on ∙ ap (write stops₀ f₀.routed) (sym (chains_append g.done (round ∷ []) grown.left ∙ chains_aside g.done (grown.stops ++ grown.left)));
                ended = one.ended;
                driven = one.driven;
              };
              count = one.count;
              all = omega (arith, g.all, long, more);
              each = omega (arith, g.each, more, many, some);
              rows = round_every (λ (i : ℕ). i < rows_of s) (rule_of s depot h index) depot g.left g.rows;
              same =
                  one_more
                  ∙ ap (λ (rs : List Round). joined g.done (record { rounds = rs; aside = (greedy (rule_of s depot h) depot (drop (k + 1) fleet) grown.left).aside })) (with_some grown.stops some (greedy (rule_of s depot h) depot (drop (k + 1) fleet) grown.left).rounds)
                  ∙ ap (λ (rs : List Round). record { rounds = rs; aside = (greedy (rule_of s depot h) depot (drop (k + 1) fleet) grown.left).aside }) (sym (append_snoc g.done round (greedy (rule_of s depot h) depot (drop (k + 1) fleet) grown.left).rounds));
            }

    -- ---- as the table has it: its members are those that are left
    module _ (stops' : List ℕ) (at : ℕ) (e : at ≡ f.routed + length (vehicle_round (rule_of s depot h index) depot (part stops f.routed total)).stops)
        (p : stops' ≡ write stops f.routed ((vehicle_round (rule_of s depot h index) depot (part stops f.routed total)).stops ++ (vehicle_round (rule_of s depot h index) depot (part stops f.routed total)).left)) where
      ended_at : at ≡ f.routed + length grown.stops
      ended_at = e ∙ ap (λ (l : List ℕ). f.routed + length (vehicle_round (rule_of s depot h index) depot l).stops) left_part

      laid_at : stops' ≡ write stops f.routed (grown.stops ++ grown.left)
      laid_at = p ∙ ap (λ (l : List ℕ). write stops f.routed ((vehicle_round (rule_of s depot h index) depot l).stops ++ (vehicle_round (rule_of s depot h index) depot l).left)) left_part

      pub passes_on : at ≡ f.routed → Laying s depot h fleet stops₀ ends₀ vehicles₀ f₀ total stops' ends vehicles f (k + 1) end
      passes_on u = passed stops' laid_at (nil_from_length grown.stops (omega (arith, ended_at)))

      module _ (some : at ≡ f.routed → ⊥) where
        has_some : 0 < length grown.stops
        has_some = go (length grown.stops) refl
          where
            go : (n : ℕ) → length grown.stops ≡ n → 0 < length grown.stops
            go zero z = absurd (some (omega (arith, ended_at, z)))
            go (suc n) z = omega (arith, z)

        pub close_room : ((f.rounds < length ends) × (f.rounds < length vehicles)) × (at ≤ 101)
        close_room = (roomy stops' laid_at has_some, omega (arith, ended_at, long, start_at_lem, g.all, g.members.most))

        pub closes : (ends' vehicles' : List ℕ) (f' : Filled) → f' ≡ record { rounds = f.rounds + 1; routed = at } → ends' ≡ write ends f.rounds (at ∷ []) → vehicles' ≡ write vehicles f.rounds (index ∷ [])
            → Laying s depot h fleet stops₀ ends₀ vehicles₀ f₀ total stops' ends' vehicles' f' (k + 1) end
        closes ends' vehicles' f' u q r = closed stops' laid_at has_some ends' vehicles' at f' ended_at u q r

  -- ---- the fleet is through
  pub ends_all : end ≤ k → greedy (rule_of s depot h) depot fleet (part stops₀ f₀.routed total) ≡ laid_so g.done g.left
  unfolding greedy
  ends_all l = let e : k ≡ length fleet = omega (arith, g.last, g.within) in
      g.same ∙ ap (λ (v : List ℕ). joined g.done (greedy (rule_of s depot h) depot v g.left)) (ap (λ (n : ℕ). drop n fleet) e ∙ drop-length fleet) ∙ ap (λ (rs : List Round). laid_so rs g.left) (append-nil g.done)

  pub ends_count : end ≤ k → f ≡ filled_by f₀ (greedy (rule_of s depot h) depot fleet (part stops₀ f₀.routed total)).rounds
  ends_count l = rw (ends_all l) g.count

  pub ends_laid : end ≤ k → Stored stops₀ ends₀ vehicles₀ f₀ (greedy (rule_of s depot h) depot fleet (part stops₀ f₀.routed total)) stops ends vehicles
  ends_laid l = rw (ends_all l) g.laid
