-- Stops packed in place: the loop over them. Assumes nothing.
use mathlib.Core.Path.{◌≡◌, refl, sym, ap, ◌∙◌}
use Prim.Native.Nat.{ℕ, zero, suc, ◌+◌, ◌-◌, ◌≤◌, ◌<◌}
use native.Mathlib.Nat.{add-zero}
use native.Mathlib.Omega.{arith}
use mathlib.Core.Bool.{Bool, true, false}
use mathlib.Core.List.{List, [], ◌∷◌, ◌++◌, append_assoc, append-nil}
use lib.ListN.{length, get_or, take, drop, length-append}
use lib.Seq.{take-take, take-append_seam, drop-append-add, drop-drop, get_or-append_seam, append_snoc}
use Rattle.std.proofs.lemmas.List.{nil_from_length}
use Rattle.lists.specs.Every.{Every}
use Rattle.lists.specs.Laws.Every.{every_of, every_at, every_append}
use Rattle.wire.specs.Bytes.{write}
use Rattle.wire.specs.Laws.Overwrite.{write_same}
use Rattle.sheet.specs.Fields.{rows_of}
use Rattle.sheet.specs.Values.{demand_of}
use Rattle.constructive.specs.declared.tables.Filled.{Filled}
use Rattle.constructive.specs.declared.terms.Terms.{Terms}
use Rattle.constructive.specs.Outcome.{Round, Outcome, chains}
use Rattle.constructive.specs.Load.{load_of}
use Rattle.constructive.specs.Laws.Load.{load_append}
use Rattle.constructive.specs.Members.{part, Members}
use Rattle.constructive.specs.Stored.{ends_from, vehicles_from, routed_in, filled_by, Stored, Room}
use Rattle.constructive.specs.Laws.Stored.{routed_append}
use Rattle.constructive.specs.Laws.Closing.{laid_stops, laid_aside, laid_ends, laid_vehicles, laid_reordered, round_laid, round_counted}
use Rattle.sweep.specs.declared.rounds.Packing.{Packing}
use Rattle.sweep.specs.Sweep.{unservable, closes, Swept, swept_round, step, stepped, swept_from, nothing_swept, last_round, finished, swept_by}
use Rattle.sweep.specs.Laws.Feasible.{closes_some}
use Rattle.sweep.specs.Met.{open_route, next_in, Midway, packed_by, stops_by, entries_by, Met}
use Rattle.constructive.specs.Laws.TableContents.{part_long, part_at}
use Rattle.sweep.proofs.Parts.{drop_part}

-- what is swept so far, with the stops not met yet, as it stands in the tables
abbrev standing : Swept → List ℕ → Outcome
standing x left = record { rounds = x.closed; aside = x.route ++ (left ++ x.aside) }

pub record Standing (s stops₀ ends₀ vehicles₀ : List ℕ) (f₀ : Filled) (total : ℕ) (stops ends vehicles : List ℕ) (p : Packing) (x : Swept) (left : List ℕ) : Type 0 where
  pub laid : Stored stops₀ ends₀ vehicles₀ f₀ (standing x left) stops ends vehicles
  pub count : p.filled ≡ filled_by f₀ x.closed
  pub ends_at : p.end ≡ p.filled.routed + length x.route
  pub meets_to : p.mid ≡ p.end + length left
  pub all : p.mid + length x.aside ≡ total
  pub load : p.load ≡ load_of s x.route
  pub each : length x.closed ≤ routed_in x.closed
  pub rows : Every (λ (i : ℕ). i < rows_of s) (x.route ++ (left ++ x.aside))

pub record Filling (s : List ℕ) (t : Terms) (stops₀ ends₀ vehicles₀ : List ℕ) (f₀ : Filled) (total : ℕ) (stops ends vehicles : List ℕ) (p : Packing) : Type 0 where
  pub members : Members s t.depot stops₀ f₀.routed total
  pub room : Room ends₀ vehicles₀ f₀ total
  pub so : Swept
  pub left : List ℕ
  pub stands : Standing s stops₀ ends₀ vehicles₀ f₀ total stops ends vehicles p so left
  pub same : swept_from s t nothing_swept (part stops₀ f₀.routed total) ≡ swept_from s t so left

-- ---- what is laid down at first: the stops, none of them met yet
pub begins : (s : List ℕ) (t : Terms) (stops ends vehicles : List ℕ) (f : Filled) (total : ℕ) → Members s t.depot stops f.routed total → Room ends vehicles f total
    → Filling s t stops ends vehicles f total stops ends vehicles (record { filled = f; end = f.routed; load = 0; mid = total })
unfolding ends_from vehicles_from routed_in chains load_of
begins s t stops ends vehicles f total ok room =
    let all = part stops f.routed total in
    let long : length all ≡ total - f.routed = part_long stops f.routed total ok.within in
    record {
      members = ok;
      room = room;
      so = nothing_swept;
      left = all;
      stands = record {
        laid = record {
          stopped = sym (ap (write stops f.routed) (append-nil all) ∙ write_same stops f.routed (total - f.routed) (omega (arith, ok.within, ok.from)));
          ended = sym (write_same ends f.rounds 0 (omega (arith, room.rounds, room.ended, ok.from)));
          driven = sym (write_same vehicles f.rounds 0 (omega (arith, room.rounds, room.driven, ok.from)));
        };
        count = rw (add-zero f.rounds, add-zero f.routed);
        ends_at = omega arith;
        meets_to = omega (arith, long, ok.from);
        all = omega arith;
        load = refl;
        each = omega arith;
        rows = rw (append-nil all) (every_of (λ (i : ℕ). i < rows_of s) 0 all ok.routed.row);
      };
      same = refl;
    }

module _ (s : List ℕ) (t : Terms) (stops₀ ends₀ vehicles₀ : List ℕ) (f₀ : Filled) (total : ℕ) (stops ends vehicles : List ℕ) (p : Packing)
    (ok : Members s t.depot stops₀ f₀.routed total) (room : Room ends₀ vehicles₀ f₀ total) (x : Swept) (left : List ℕ) (g : Standing s stops₀ ends₀ vehicles₀ f₀ total stops ends vehicles p x left) where
  abbrev tail : List ℕ
  tail = x.route ++ (left ++ x.aside)

  routed_so : p.filled.routed ≡ f₀.routed + routed_in x.closed
  routed_so = ap (λ (f : Filled). f.routed) g.count

  rounds_so : p.filled.rounds ≡ f₀.rounds + length x.closed
  rounds_so = ap (λ (f : Filled). f.rounds) g.count

  tail_long : p.filled.routed + length tail ≡ total
  tail_long = omega (arith, length-append x.route (left ++ x.aside), length-append left x.aside, g.ends_at, g.meets_to, g.all)

  within : f₀.routed + routed_in x.closed + length tail ≤ length stops₀
  within = omega (arith, tail_long, routed_so, ok.within)

  long_stops : length stops ≡ length stops₀
  long_stops = laid_stops stops₀ ends₀ vehicles₀ f₀ x.closed tail stops ends vehicles g.laid within

  long_ends : length ends ≡ length ends₀
  long_ends = laid_ends stops₀ ends₀ vehicles₀ f₀ x.closed tail stops ends vehicles g.laid (omega (arith, g.each, room.rounds, room.ended, routed_so, tail_long))

  long_vehicles : length vehicles ≡ length vehicles₀
  long_vehicles = laid_vehicles stops₀ ends₀ vehicles₀ f₀ x.closed tail stops ends vehicles g.laid (omega (arith, g.each, room.rounds, room.driven, routed_so, tail_long))

  -- what stands behind the rounds closed
  tail_part : part stops p.filled.routed total ≡ tail
  tail_part =
      let n : total - p.filled.routed ≡ length tail = omega (arith, tail_long) in
      ap (λ (m : ℕ). take m (drop p.filled.routed stops)) n
      ∙ ap (λ (m : ℕ). take (length tail) (drop m stops)) routed_so
      ∙ laid_aside stops₀ ends₀ vehicles₀ f₀ x.closed tail stops ends vehicles g.laid within

  route_part : open_route stops p ≡ x.route
  route_part =
      let n : p.end - p.filled.routed ≡ length x.route = omega (arith, g.ends_at) in
      ap (λ (m : ℕ). take m (drop p.filled.routed stops)) n
      ∙ sym (take-take (length x.route) (total - p.filled.routed) (drop p.filled.routed stops) (omega (arith, g.ends_at, g.meets_to, g.all)))
      ∙ ap (take (length x.route)) tail_part
      ∙ take-append_seam x.route (left ++ x.aside)

  now_members : Members s t.depot stops p.filled.routed total
  now_members = record {
    routed = rw tail_part (record {
      sheet = ok.routed.sheet;
      home = ok.routed.home;
      few = omega (arith, tail_long, ok.most);
      row = λ i l. every_at (λ (i : ℕ). i < rows_of s) 0 tail i l g.rows;
    });
    from = omega (arith, tail_long);
    most = ok.most;
    within = omega (arith, long_stops, ok.within);
  }

  now_room : Room ends vehicles p.filled total
  now_room = record {
    rounds = omega (arith, rounds_so, routed_so, g.each, room.rounds);
    ended = omega (arith, long_ends, room.ended);
    driven = omega (arith, long_vehicles, room.driven);
  }

  now_midway : p.end < p.mid → Midway s stops p total
  now_midway h = record {
    from = omega (arith, g.ends_at);
    next = h;
    within = omega (arith, g.all);
    load = g.load ∙ ap (load_of s) (sym route_part);
  }

every_left : (P : ℕ → Type 0) (xs ys : List ℕ) → Every P (xs ++ ys) → Every P xs
every_left P [] ys e = tt
every_left P (x ∷ xs) ys e = (e.0, every_left P xs ys e.1)

every_right : (P : ℕ → Type 0) (xs ys : List ℕ) → Every P (xs ++ ys) → Every P ys
every_right P [] ys e = e
every_right P (x ∷ xs) ys e = every_right P xs ys e.1

-- ---- a stop met
module _ (s : List ℕ) (t : Terms) (stops₀ ends₀ vehicles₀ : List ℕ) (f₀ : Filled) (total : ℕ) (stops ends vehicles : List ℕ) (p : Packing)
    (ok : Members s t.depot stops₀ f₀.routed total) (room : Room ends₀ vehicles₀ f₀ total) (x : Swept) (row : ℕ) (rows : List ℕ) (g : Standing s stops₀ ends₀ vehicles₀ f₀ total stops ends vehicles p x (row ∷ rows)) where
  abbrev behind : List ℕ
  behind = rows ++ x.aside

  abbrev InRows : ℕ → Type 0
  InRows i = i < rows_of s

  at_tail : part stops p.filled.routed total ≡ x.route ++ (row ∷ behind)
  at_tail = tail_part s t stops₀ ends₀ vehicles₀ f₀ total stops ends vehicles p ok room x (row ∷ rows) g

  tail_ends : p.filled.routed + (length x.route + suc (length behind)) ≡ total
  tail_ends = omega (arith, tail_long s t stops₀ ends₀ vehicles₀ f₀ total stops ends vehicles p ok room x (row ∷ rows) g, length-append x.route (row ∷ behind))

  routed_is : p.filled.routed ≡ f₀.routed + routed_in x.closed
  routed_is = routed_so s t stops₀ ends₀ vehicles₀ f₀ total stops ends vehicles p ok room x (row ∷ rows) g

  inside : total ≤ length stops
  inside = omega (arith, long_stops s t stops₀ ends₀ vehicles₀ f₀ total stops ends vehicles p ok room x (row ∷ rows) g, ok.within)

  next_is : next_in stops p ≡ row
  next_is =
      ap (λ (n : ℕ). get_or stops n 0) g.ends_at
      ∙ sym (part_at stops p.filled.routed total (length x.route) (omega (arith, tail_ends)))
      ∙ ap (λ (l : List ℕ). get_or l (length x.route) 0) at_tail
      ∙ get_or-append_seam x.route row behind 0

  behind_is : part stops (p.end + 1) total ≡ behind
  behind_is =
      let n : p.end + 1 ≡ p.filled.routed + (length x.route + 1) = omega (arith, g.ends_at) in
      sym (drop_part stops (p.end + 1) total (omega (arith, n, tail_ends)) inside)
      ∙ ap (λ (m : ℕ). drop m (take total stops)) n
      ∙ sym (drop-drop (length x.route + 1) p.filled.routed (take total stops))
      ∙ ap (drop (length x.route + 1)) (drop_part stops p.filled.routed total (omega (arith, tail_ends)) inside ∙ at_tail)
      ∙ drop-append-add x.route (row ∷ behind) 1

  -- the tables after a stop is set aside
  aside_stands : Standing s stops₀ ends₀ vehicles₀ f₀ total (write stops p.end (part stops (p.end + 1) total ++ (next_in stops p ∷ []))) ends vehicles
      (record { filled = p.filled; end = p.end; load = p.load; mid = p.mid - 1 }) (record { closed = x.closed; route = x.route; aside = x.aside ++ (row ∷ []) }) rows
  aside_stands =
      let sent = rows ++ (x.aside ++ (row ∷ [])) in
      let long : length sent ≡ suc (length behind) = omega (arith, length-append rows (x.aside ++ (row ∷ [])), length-append x.aside (row ∷ []), length-append rows x.aside) in
      let q : write stops p.end (part stops (p.end + 1) total ++ (next_in stops p ∷ [])) ≡ write stops (f₀.routed + routed_in x.closed + length x.route) sent =
      ap (λ (l : List ℕ). write stops p.end (l ++ (next_in stops p ∷ []))) behind_is
      ∙ ap (λ (n : ℕ). write stops p.end (behind ++ (n ∷ []))) next_is
      ∙ ap (write stops p.end) (append_assoc rows x.aside (row ∷ []))
      ∙ ap (λ (n : ℕ). write stops n sent) (g.ends_at ∙ ap (λ (n : ℕ). n + length x.route) routed_is) in
      record {
        laid = laid_reordered stops₀ ends₀ vehicles₀ f₀ x.closed x.route (row ∷ behind) sent stops ends vehicles _ g.laid (omega (arith, routed_is, tail_ends, ok.within)) long q;
        count = g.count;
        ends_at = g.ends_at;
        meets_to = omega (arith, g.meets_to);
        all = omega (arith, g.all, g.meets_to, length-append x.aside (row ∷ []));
        load = g.load;
        each = g.each;
        rows =
            let e = every_right InRows x.route (row ∷ behind) g.rows in
            every_append InRows x.route sent (every_left InRows x.route (row ∷ behind) g.rows)
            (every_append InRows rows (x.aside ++ (row ∷ [])) (every_left InRows rows x.aside e.1) (every_append InRows x.aside (row ∷ []) (every_right InRows rows x.aside e.1) (e.0, tt)));
      }

  -- the round closes, and the stop begins the next
  closed_stands : 0 < length x.route
      → Standing s stops₀ ends₀ vehicles₀ f₀ total stops (write ends p.filled.rounds (p.end ∷ [])) (write vehicles p.filled.rounds (t.vehicle ∷ []))
      (record { filled = record { rounds = p.filled.rounds + 1; routed = p.end }; end = p.end + 1; load = demand_of s row; mid = p.mid }) (record { closed = x.closed ++ (swept_round t x.route ∷ []); route = row ∷ []; aside = x.aside }) rows
  unfolding routed_in load_of
  closed_stands some =
      let r = swept_round t x.route in
      let enough = rounds_so s t stops₀ ends₀ vehicles₀ f₀ total stops ends vehicles p ok room x (row ∷ rows) g in
      record {
        laid =
            round_laid stops₀ ends₀ vehicles₀ f₀ x.closed r (row ∷ behind) stops ends vehicles p.filled g.laid g.count p.end g.ends_at _ _
            (omega (arith, enough, g.each, room.rounds, room.ended, routed_is, tail_ends)) (omega (arith, enough, g.each, room.rounds, room.driven, routed_is, tail_ends)) refl refl;
        count = round_counted stops₀ ends₀ vehicles₀ f₀ x.closed r (row ∷ behind) stops ends vehicles p.filled g.laid g.count p.end g.ends_at;
        ends_at = omega arith;
        meets_to = omega (arith, g.meets_to);
        all = g.all;
        load = omega arith;
        each = omega (arith, g.each, some, length-append x.closed (r ∷ []), routed_append x.closed (r ∷ []));
        rows = every_right InRows x.route (row ∷ behind) g.rows;
      }

  -- the stop joins the round
  joined_stands : Standing s stops₀ ends₀ vehicles₀ f₀ total stops ends vehicles
      (record { filled = p.filled; end = p.end + 1; load = p.load + demand_of s row; mid = p.mid }) (record { closed = x.closed; route = x.route ++ (row ∷ []); aside = x.aside }) rows
  unfolding load_of
  joined_stands =
      let snoc : (x.route ++ (row ∷ [])) ++ behind ≡ x.route ++ (row ∷ behind) = append_snoc x.route row behind in
      record {
        laid = rw snoc g.laid;
        count = g.count;
        ends_at = omega (arith, g.ends_at, length-append x.route (row ∷ []));
        meets_to = omega (arith, g.meets_to);
        all = g.all;
        load = omega (arith, g.load, load_append s x.route (row ∷ []));
        each = g.each;
        rows = rw snoc g.rows;
      }

  met_stands : (h c : Bool) → closes s t x.route row ≡ c
      → Standing s stops₀ ends₀ vehicles₀ f₀ total (stops_by h stops p.end total) (entries_by h c ends p.filled.rounds p.end) (entries_by h c vehicles p.filled.rounds t.vehicle) (packed_by h c p (demand_of s row)) (step t h c x row) rows
  met_stands true c e = aside_stands
  met_stands false true e = closed_stands (closes_some s t x.route row e)
  met_stands false false e = joined_stands

  -- as the table has it
  pub goes : (stops' ends' vehicles' : List ℕ) (p' : Packing) → Met s t total stops ends vehicles p stops' ends' vehicles' p' → Standing s stops₀ ends₀ vehicles₀ f₀ total stops' ends' vehicles' p' (stepped s t x row) rows
  unfolding stepped
  goes stops' ends' vehicles' p' m =
      let h = unservable s t row in
      let c = closes s t x.route row in
      let route-is = route_part s t stops₀ ends₀ vehicles₀ f₀ total stops ends vehicles p ok room x (row ∷ rows) g in
      let both : (l : List ℕ) → l ≡ x.route → (n : ℕ) → n ≡ row → closes s t l n ≡ c = λ l a n b. rw (a, b) in
      let now = both (open_route stops p) route-is (next_in stops p) next_is in
      let first = ap (unservable s t) next_is in
      let a : stops' ≡ stops_by h stops p.end total = m.stopped ∙ ap (λ (b : Bool). stops_by b stops p.end total) first in
      let b : ends' ≡ entries_by h c ends p.filled.rounds p.end =
      m.ended ∙ ap (λ (b : Bool). entries_by b (closes s t (open_route stops p) (next_in stops p)) ends p.filled.rounds p.end) first ∙ ap (λ (b : Bool). entries_by h b ends p.filled.rounds p.end) now in
      let d : vehicles' ≡ entries_by h c vehicles p.filled.rounds t.vehicle =
      m.driven ∙ ap (λ (b : Bool). entries_by b (closes s t (open_route stops p) (next_in stops p)) vehicles p.filled.rounds t.vehicle) first ∙ ap (λ (b : Bool). entries_by h b vehicles p.filled.rounds t.vehicle) now in
      let e : p' ≡ packed_by h c p (demand_of s row) =
      m.packed
      ∙ ap (λ (b : Bool). packed_by b (closes s t (open_route stops p) (next_in stops p)) p (demand_of s (next_in stops p))) first
      ∙ ap (λ (b : Bool). packed_by h b p (demand_of s (next_in stops p))) now
      ∙ ap (λ (n : ℕ). packed_by h c p (demand_of s n)) next_is in
      rw (a, b, d, e) (met_stands h c refl)

-- fewer stops are left
pub falls : (s : List ℕ) (t : Terms) (total : ℕ) (stops ends vehicles : List ℕ) (p : Packing) (stops' ends' vehicles' : List ℕ) (p' : Packing) → p.end < p.mid → Met s t total stops ends vehicles p stops' ends' vehicles' p' → p'.mid - p'.end < p.mid - p.end
falls s t total stops ends vehicles p stops' ends' vehicles' p' l m =
    rw m.packed (go (unservable s t (next_in stops p)) (closes s t (open_route stops p) (next_in stops p)) (demand_of s (next_in stops p)))
  where
    go : (h c : Bool) (d : ℕ) → (packed_by h c p d).mid - (packed_by h c p d).end < p.mid - p.end
    go true c d = omega arith
    go false true d = omega arith
    go false false d = omega arith

module _ (s : List ℕ) (t : Terms) (stops₀ ends₀ vehicles₀ : List ℕ) (f₀ : Filled) (total : ℕ) (stops ends vehicles : List ℕ) (p : Packing) (g : Filling s t stops₀ ends₀ vehicles₀ f₀ total stops ends vehicles p) where
  pub ends_long : length ends ≡ length ends₀
  ends_long = long_ends s t stops₀ ends₀ vehicles₀ f₀ total stops ends vehicles p g.members g.room g.so g.left g.stands

  pub vehicles_long : length vehicles ≡ length vehicles₀
  vehicles_long = long_vehicles s t stops₀ ends₀ vehicles₀ f₀ total stops ends vehicles p g.members g.room g.so g.left g.stands

  room_now : Room ends vehicles p.filled total
  room_now = now_room s t stops₀ ends₀ vehicles₀ f₀ total stops ends vehicles p g.members g.room g.so g.left g.stands

  pub meet_asks : p.end < p.mid → Members s t.depot stops p.filled.routed total × (Room ends vehicles p.filled total × Midway s stops p total)
  meet_asks h = (
    now_members s t stops₀ ends₀ vehicles₀ f₀ total stops ends vehicles p g.members g.room g.so g.left g.stands,
    (room_now, now_midway s t stops₀ ends₀ vehicles₀ f₀ total stops ends vehicles p g.members g.room g.so g.left g.stands h),
  )

  pub goes_on : p.end < p.mid → (stops' ends' vehicles' : List ℕ) (p' : Packing) → Met s t total stops ends vehicles p stops' ends' vehicles' p' → Filling s t stops₀ ends₀ vehicles₀ f₀ total stops' ends' vehicles' p'
  unfolding swept_from
  goes_on h stops' ends' vehicles' p' m = go g.left g.stands g.same
    where
      go : (left : List ℕ) → Standing s stops₀ ends₀ vehicles₀ f₀ total stops ends vehicles p g.so left → swept_from s t nothing_swept (part stops₀ f₀.routed total) ≡ swept_from s t g.so left → Filling s t stops₀ ends₀ vehicles₀ f₀ total stops' ends' vehicles' p'
      go [] k e = absurd (omega (arith, k.meets_to))
      go (row ∷ rows) k e = record {
        members = g.members;
        room = g.room;
        so = stepped s t g.so row;
        left = rows;
        stands = goes s t stops₀ ends₀ vehicles₀ f₀ total stops ends vehicles p g.members g.room g.so row rows k stops' ends' vehicles' p' m;
        same = e;
      }

  -- ---- all stops are met
  module _ (h : p.mid ≤ p.end) where
    abbrev outcome : Outcome
    outcome = swept_by s t (part stops₀ f₀.routed total)

    none_left : g.left ≡ []
    none_left = nil_from_length g.left (omega (arith, g.stands.meets_to))

    stands_so : Standing s stops₀ ends₀ vehicles₀ f₀ total stops ends vehicles p g.so []
    stands_so = rw none_left at g.stands

    outcome_is : outcome ≡ finished t g.so
    unfolding swept_by swept_from
    outcome_is = ap (finished t) (g.same ∙ ap (swept_from s t g.so) none_left)

    -- and the last round has none
    module _ (z : p.filled.routed ≡ p.end) where
      no_route : g.so.route ≡ []
      no_route = nil_from_length g.so.route (omega (arith, stands_so.ends_at))

      outcome_so : outcome ≡ record { rounds = g.so.closed; aside = g.so.aside }
      outcome_so = outcome_is ∙ ap (λ (l : List ℕ). record { rounds = g.so.closed ++ last_round t l; aside = g.so.aside }) no_route ∙ ap (λ (rs : List Round). record { rounds = rs; aside = g.so.aside }) (append-nil g.so.closed)

      pub ends_laid : (p.filled ≡ filled_by f₀ outcome.rounds) × Stored stops₀ ends₀ vehicles₀ f₀ outcome stops ends vehicles
      ends_laid = rw outcome_so (stands_so.count, rw no_route at stands_so.laid)

    -- or the last round is closed
    module _ (z : p.filled.routed ≡ p.end → ⊥) where
      has_some : 0 < length g.so.route
      has_some = go (length g.so.route) refl
        where
          go : (n : ℕ) → length g.so.route ≡ n → 0 < length g.so.route
          go zero e = absurd (z (omega (arith, stands_so.ends_at, e)))
          go (suc n) e = omega (arith, e)

      pub close_asks : ((p.filled.rounds < length ends) × (p.filled.rounds < length vehicles)) × (p.end ≤ 101)
      close_asks =
          let u = stands_so.ends_at in
          let w = stands_so.meets_to in
          let a = stands_so.all in
          ((omega (arith, has_some, room_now.rounds, room_now.ended), omega (arith, has_some, room_now.rounds, room_now.driven)), omega (arith, g.members.most))

      outcome_more : outcome ≡ record { rounds = g.so.closed ++ (swept_round t g.so.route ∷ []); aside = g.so.aside }
      outcome_more = outcome_is ∙ ap (λ (rs : List Round). record { rounds = g.so.closed ++ rs; aside = g.so.aside }) (go g.so.route has_some)
        where
          go : (route : List ℕ) → 0 < length route → last_round t route ≡ swept_round t route ∷ []
          go [] l = absurd (omega arith)
          go (i ∷ is) l = refl

      pub ends_closed : (ends' vehicles' : List ℕ) (f' : Filled) → f' ≡ record { rounds = p.filled.rounds + 1; routed = p.end } → ends' ≡ write ends p.filled.rounds (p.end ∷ []) → vehicles' ≡ write vehicles p.filled.rounds (t.vehicle ∷ [])
          → (f' ≡ filled_by f₀ outcome.rounds) × Stored stops₀ ends₀ vehicles₀ f₀ outcome stops ends' vehicles'
      ends_closed ends' vehicles' f' u q r =
          let k = stands_so in
          let v = swept_round t g.so.route in
          rw outcome_more (
            u ∙ round_counted stops₀ ends₀ vehicles₀ f₀ g.so.closed v g.so.aside stops ends vehicles p.filled k.laid k.count p.end k.ends_at,
            round_laid stops₀ ends₀ vehicles₀ f₀ g.so.closed v g.so.aside stops ends vehicles p.filled k.laid k.count p.end k.ends_at ends' vehicles'
                (omega (arith, close_asks.0.0, ends_long)) (omega (arith, close_asks.0.1, vehicles_long)) q r,
          )
