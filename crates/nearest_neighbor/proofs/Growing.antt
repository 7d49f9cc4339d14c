-- A round that grows in the table of stops: its stops stand first, those that are left after them. Assumes nothing.
use Rattle.std.specs.Prelude.{Some, None}
use mathlib.Core.Path.{◌≡◌, refl, sym, ap, ◌∙◌, subst}
use Prim.Native.Nat.{ℕ, zero, suc, ◌+◌, ◌-◌, ◌≤◌, ◌<◌}
use native.Mathlib.Omega.{arith}
use mathlib.Core.List.{List, [], ◌∷◌, ◌++◌, append_assoc}
use lib.ListN.{length, get_or, take, drop, length-append, length-drop}
use lib.Seq.{length-take-le, get_or-take, get_or-drop, take-take}
use lib.Ieee.{Float}
use Rattle.lists.specs.Every.{Every}
use Rattle.lists.specs.Laws.Every.{every_of, every_at, every_append, every_take, every_drop}
use Rattle.lists.specs.Moved.{without}
use Rattle.lists.specs.Laws.Moved.{without_length}
use Rattle.wire.specs.Bytes.{write}
use Rattle.wire.specs.Laws.Bytes.{length_write}
use Rattle.wire.specs.Laws.Overwrite.{write_same, part_write, write_within}
use Rattle.sheet.specs.Fields.{rows_of}
use Rattle.sheet.specs.Values.{vehicle_of}
use Rattle.sheet.specs.declared.vehicle.Vehicle.{Vehicle}
use Rattle.evaluation.specs.declared.limits.RouteLimits.{RouteLimits}
use Rattle.evaluation.specs.Routed.{Routed}
use Rattle.constructive.specs.Members.{part, Members}
use Rattle.nearest_neighbor_choice.specs.StopChoice.{StopChoice}
use Rattle.nearest_neighbor_choice.specs.declared.partial.Partial.{Partial}
use Rattle.nearest_neighbor_choice.specs.Heuristic.{Heuristic, offer_by}
use Rattle.nearest_neighbor_choice.specs.Choice.{choose, Trip, empty_trip}
use Rattle.nearest_neighbor.specs.Greedy.{Rule, extending, extended, extended_by, extend, extend_on, end_of_trip, vehicle_round}
use Rattle.nearest_neighbor.specs.Laws.Chosen.{Chosen, choose_chosen}
use Rattle.nearest_neighbor_choice.specs.Partial.{empty_partial, PartialRoute}
use Rattle.nearest_neighbor.specs.Heuristic.{limits_by, rule_of, onward_by}
use Rattle.nearest_neighbor.proofs.Leaving.{joins}
use Rattle.nearest_neighbor.proofs.Keeping.{ride_of, Driven, offers, drives_on, stays_driven, riding, sets_out, off, choose_alike}

-- a round that is grown stays so
pub stays_grown : (rule : Rule) (n : ℕ) (trip : Trip) (left : List ℕ) → extend_on rule n (extended trip left) ≡ extended trip left
unfolding extend_on extend
stays_grown rule zero trip left = refl
stays_grown rule (suc n) trip left = stays_grown rule n trip left

-- one choice of the rule
grows : (rule : Rule) (n : ℕ) (trip : Trip) (left : List ℕ) (c : StopChoice) → choose (rule.offer trip) None 0 left ≡ c → extend_on rule (suc n) (extending trip left) ≡ extend_on rule n (extended_by rule trip left c)
unfolding extend_on extend
grows rule n trip left c e = ap (λ (x : StopChoice). extend_on rule n (extended_by rule trip left x)) e

-- what holds at the head of the loop
pub record Growing (s : List ℕ) (depot : ℕ) (h : Heuristic) (index : ℕ) (stops₀ : List ℕ) (start total : ℕ) (stops : List ℕ) (partial : Partial) (end : ℕ) : Type 0 where
  pub members : Members s depot stops₀ start total
  pub trip : Trip
  pub left : List ℕ
  pub laid : stops ≡ write stops₀ start (trip.stops ++ left)
  pub at : end ≡ start + length trip.stops
  pub all : end + length left ≡ total
  pub kept : partial ≡ ride_of s depot (limits_by s h index).rest trip
  pub driven : Driven s depot trip
  pub rows : Every (λ (i : ℕ). i < rows_of s) left
  pub same : vehicle_round (rule_of s depot h index) depot (part stops₀ start total) ≡ end_of_trip (extend_on (rule_of s depot h index) (length left) (extending trip left))

pub begins : (s : List ℕ) (depot : ℕ) (h : Heuristic) (index : ℕ) (stops : List ℕ) (start total : ℕ) (partial : Partial) → Members s depot stops start total → partial ≡ empty_partial (limits_by s h index).rest depot → Growing s depot h index stops start total stops partial start
begins s depot h index stops start total partial ok e =
    let long : length (part stops start total) ≡ total - start = length-take-le (total - start) (drop start stops) (omega (arith, length-drop start stops, ok.within, ok.from)) in
    record {
      members = ok;
      trip = empty_trip depot;
      left = part stops start total;
      laid = sym (write_same stops start (total - start) (omega (arith, ok.within, ok.from)));
      at = omega arith;
      all = omega (arith, long, ok.from);
      kept = e ∙ sets_out s depot (limits_by s h index).rest;
      driven = off s depot ok.routed.home;
      rows = every_of (λ (i : ℕ). i < rows_of s) 0 (part stops start total) ok.routed.row;
      same = refl;
    }

module _ (s : List ℕ) (depot : ℕ) (h : Heuristic) (index : ℕ) (stops₀ : List ℕ) (start total : ℕ) (stops : List ℕ) (partial : Partial) (end : ℕ) (g : Growing s depot h index stops₀ start total stops partial end) where
  abbrev rule : Rule
  rule = rule_of s depot h index

  abbrev taken : List ℕ
  taken = g.trip.stops

  room : start + length (taken ++ g.left) ≤ length stops₀
  room = omega (arith, length-append taken g.left, g.at, g.all, g.members.within)

  pub length_same : length stops ≡ length stops₀
  length_same = ap length g.laid ∙ length_write stops₀ start (taken ++ g.left) room

  -- the stops left stand from `end` to `total`
  pub left_part : part stops end total ≡ g.left
  left_part =
      let n : total - end ≡ length g.left = omega (arith, g.all) in
      rw (n, g.at, g.laid) (part_write stops₀ start taken g.left room)

  pub routed : Routed s depot (part stops end total)
  routed = rw left_part (record {
    sheet = g.members.routed.sheet;
    home = g.members.routed.home;
    few = omega (arith, g.all, g.members.most);
    row = λ k l. every_at (λ (i : ℕ). i < rows_of s) 0 g.left k l g.rows;
  })

  pub rides : end < total → PartialRoute s partial
  rides k = rw g.kept (riding s depot (limits_by s h index).rest g.trip g.members.routed.sheet g.driven (omega (arith, g.at, g.members.most)))

  -- the choice is the rule's
  module _ (c : StopChoice) (v : Vehicle) (limits : RouteLimits) (told : v ≡ vehicle_of s index) (held : limits ≡ limits_by s h index) (e : c ≡ choose (offer_by s depot h v limits partial) None 0 (part stops end total)) where
    chosen : choose (rule.offer g.trip) None 0 g.left ≡ c
    chosen =
        sym (e
        ∙ ap (choose (offer_by s depot h v limits partial) None 0) left_part
        ∙ ap (λ (x : Vehicle). choose (offer_by s depot h x limits partial) None 0 g.left) told
        ∙ ap (λ (x : RouteLimits). choose (offer_by s depot h (vehicle_of s index) x partial) None 0 g.left) held
        ∙ ap (λ (x : Partial). choose (offer_by s depot h (vehicle_of s index) (limits_by s h index) x) None 0 g.left) g.kept
        ∙ choose_alike (offer_by s depot h (vehicle_of s index) (limits_by s h index) (ride_of s depot (limits_by s h index).rest g.trip)) (rule.offer g.trip)
        (λ i. offers s depot (vehicle_of s index) (limits_by s h index) g.trip g.driven i h index refl refl) None 0 g.left)

    -- no stop can join: the round is grown
    none_joins : (n : ℕ) → c ≡ None → end_of_trip (extend_on rule n (extending g.trip g.left)) ≡ record { stops = taken; left = g.left }
    unfolding extend_on extend
    none_joins zero f = refl
    none_joins (suc n) f = rw (chosen, f, stays_grown rule n g.trip g.left)

    pub grown_full : c ≡ None → vehicle_round rule depot (part stops₀ start total) ≡ record { stops = taken; left = g.left }
    grown_full f = g.same ∙ none_joins (length g.left) f

    -- a stop joins
    module _ (j : ℕ) (k : Float) (f : c ≡ Some (j, k)) where
      pub inside : j < length g.left
      inside = (subst (Chosen (rule.offer g.trip) g.left) (chosen ∙ f) (choose_chosen (rule.offer g.trip) g.left)).0

      abbrev stop : ℕ
      stop = get_or g.left j 0

      pub stop_at : get_or stops (end + j) 0 ≡ stop
      stop_at =
          sym (get_or-drop end stops j 0)
          ∙ sym (get_or-take (total - end) (drop end stops) j 0 (omega (arith, inside, g.all)))
          ∙ ap (λ (l : List ℕ). get_or l j 0) left_part

      pub stop_row : get_or stops (end + j) 0 < rows_of s
      stop_row = rw stop_at (every_at (λ (i : ℕ). i < rows_of s) 0 g.left j inside g.rows)

      -- the table with the stop brought to the round
      brought : write stops end (get_or stops (end + j) 0 ∷ take (end + j - end) (drop end stops)) ≡ write stops₀ start (taken ++ (stop ∷ []) ++ without j g.left)
      brought =
          let m : end + j - end ≡ j = omega arith in
          let front : take j (drop end stops) ≡ take j g.left = sym (take-take j (total - end) (drop end stops) (omega (arith, inside, g.all))) ∙ ap (take j) left_part in
          let long : length (stop ∷ take j g.left) ≡ j + 1 = ap suc (length-take-le j g.left (omega (arith, inside))) ∙ omega arith in
          ap (λ (n : ℕ). write stops end (get_or stops (end + j) 0 ∷ take n (drop end stops))) m
          ∙ ap (λ (l : List ℕ). write stops end (get_or stops (end + j) 0 ∷ l)) front
          ∙ ap (λ (i : ℕ). write stops end (i ∷ take j g.left)) stop_at
          ∙ ap (λ (l : List ℕ). write l end (stop ∷ take j g.left)) g.laid
          ∙ ap (λ (n : ℕ). write (write stops₀ start (taken ++ g.left)) n (stop ∷ take j g.left)) g.at
          ∙ write_within stops₀ start taken g.left room (stop ∷ take j g.left) (omega (arith, long, inside))
          ∙ ap (λ (n : ℕ). write stops₀ start (taken ++ ((stop ∷ take j g.left) ++ drop n g.left))) long
          ∙ ap (write stops₀ start) (simp append_assoc)

      grown_on : end_of_trip (extend_on rule (length g.left) (extending g.trip g.left)) ≡ end_of_trip (extend_on rule (length (without j g.left)) (extending (rule.onward g.trip stop) (without j g.left)))
      grown_on =
          let n : length g.left ≡ suc (length (without j g.left)) = omega (arith, without_length g.left j inside) in
          ap (λ (m : ℕ). end_of_trip (extend_on rule m (extending g.trip g.left))) n ∙ ap end_of_trip (grows rule (length (without j g.left)) g.trip g.left (Some (j, k)) (chosen ∙ f))

      pub goes_on : (stops' : List ℕ) (partial' : Partial) → stops' ≡ write stops end (get_or stops (end + j) 0 ∷ take (end + j - end) (drop end stops)) → partial' ≡ onward_by s h partial (get_or stops (end + j) 0)
          → Growing s depot h index stops₀ start total stops' partial' (end + 1)
      goes_on stops' partial' p q =
          let more = joins s depot h index g.trip stop in
          let long : length (rule.onward g.trip stop).stops ≡ length taken + 1 = ap length more ∙ length-append taken (stop ∷ []) in
          record {
            members = g.members;
            trip = rule.onward g.trip stop;
            left = without j g.left;
            laid = p ∙ brought ∙ ap (λ (l : List ℕ). write stops₀ start (l ++ without j g.left)) (sym more);
            at = omega (arith, long, g.at);
            all = omega (arith, g.all, without_length g.left j inside);
            kept = q ∙ rw (stop_at, g.kept) (drives_on s depot (limits_by s h index).rest g.trip h index stop);
            driven = stays_driven s depot g.trip h index stop g.members.routed.sheet g.driven (every_at (λ (i : ℕ). i < rows_of s) 0 g.left j inside g.rows);
            rows = every_append (λ (i : ℕ). i < rows_of s) (take j g.left) (drop (j + 1) g.left) (every_take (λ (i : ℕ). i < rows_of s) j g.left g.rows) (every_drop (λ (i : ℕ). i < rows_of s) (j + 1) g.left g.rows);
            same = g.same ∙ grown_on;
          }

  -- no stop is left
  pub grown_out : total ≤ end → vehicle_round rule depot (part stops₀ start total) ≡ record { stops = taken; left = g.left }
  unfolding extend_on
  grown_out k = let n : length g.left ≡ 0 = omega (arith, g.all) in g.same ∙ rw n

  -- where the round is grown
  module _ (told : vehicle_round rule depot (part stops₀ start total) ≡ record { stops = taken; left = g.left }) where
    pub ends_at : end ≡ start + length (vehicle_round rule depot (part stops₀ start total)).stops
    ends_at = rw told g.at

    pub ends_laid : stops ≡ write stops₀ start ((vehicle_round rule depot (part stops₀ start total)).stops ++ (vehicle_round rule depot (part stops₀ start total)).left)
    ends_laid = rw told g.laid
