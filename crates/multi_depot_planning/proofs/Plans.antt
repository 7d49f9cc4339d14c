-- The depots one after another: there is room for the next one's members, and its stops set aside are marked. Assumes nothing.
use mathlib.Core.Path.{◌≡◌, sym, ap, ◌∙◌}
use Prim.Native.Nat.{ℕ, suc, ◌+◌, ◌-◌, ◌≤◌, ◌<◌}
use native.Mathlib.Numerals.{add-one}
use native.Mathlib.Omega.{arith}
use mathlib.Core.Bool.{true, ◌&&◌}
use mathlib.Core.List.{List, []}
use lib.Dec.{leb, ltb, eqb, ltb→lt}
use lib.Ieee.Fits.{and_l, and_r}
use lib.ListN.{length, get_or, drop, replicate, length-drop}
use lib.Seq.{length-take-le, get_or-take, get_or-drop}
use Rattle.lists.specs.Count.{count}
use Rattle.lists.specs.Laws.Count.{stop_counted}
use Rattle.lists.specs.Laws.Once.{count_append}
use Rattle.lists.specs.Laws.Permutation.{same_length, count_at}
use Rattle.lists.specs.Laws.Filter.{those_few, those_parts}
use Rattle.sheet.specs.Fields.{rows_of}
use Rattle.sheet.specs.Depots.{depots_of}
use Rattle.sheet.specs.Stops.{is_stop, stops_with}
use Rattle.sheet.specs.Laws.Stops.{stops_count}
use Rattle.constructive.specs.declared.tables.Filled.{Filled}
use Rattle.constructive.specs.Outcome.{chains, stops_of}
use Rattle.constructive.specs.Stored.{routed_in}
use Rattle.constructive.specs.Laws.Stored.{chains_aside, length_chains}
use Rattle.constructive.specs.Members.{members_of}
use Rattle.constructive.specs.Laws.TableContents.{empty, holds_none}
use Rattle.constructive.specs.Laws.Marks.{marks_more, marks_none}
use Rattle.multi_depot_offers.specs.ByDepot.{planned_of, planned_upto}
use Rattle.multi_depot_offers.specs.Laws.Once.{planned_keeps, one_more, upto_count}
use Rattle.multi_depot_offers.specs.Laws.Rounds.{upto_routed}
use Rattle.multi_depot_offers.specs.Promises.{Next, Added, Planned}
use Rattle.multi_depot_planning.specs.DepotLaid.{DepotLaid}

-- ---- room for the next members
upto_length : (s at : List ℕ) (n : ℕ) → length (stops_of (planned_upto s at n)) ≡ length (stops_with s (λ c. ltb (get_or at c 0) n))
upto_length s at n =
    same_length (stops_of (planned_upto s at n)) (stops_with s (λ c. ltb (get_or at c 0) n)) (λ x. upto_count s at n x ∙ sym (stops_count s (λ c. ltb (get_or at c 0) n) x))

room_next : (s at : List ℕ) (n : ℕ) → routed_in (planned_upto s at n).rounds + length (members_of s at n) ≤ rows_of s
unfolding members_of
room_next s at n =
    let o = planned_upto s at n in
    let m = rows_of s - depots_of s in
    omega (arith, length_chains o.rounds o.aside, upto_length s at n, those_parts (λ c. ltb (get_or at c 0) n) (λ c. eqb (get_or at c 0) n) (λ c. ltb (get_or at c 0) (suc n)) (λ x. one_more true (get_or at x 0) n) m (depots_of s), those_few (λ c. ltb (get_or at c 0) (suc n)) m (depots_of s))

pub next_there : {s : List ℕ} (at : List ℕ) {marks stops ends vehicles : List ℕ} (d : ℕ) {f : Filled} → d < depots_of s → Planned s marks stops ends vehicles f (planned_upto s at d) → Next s at d f
next_there {s} at d h p = record {
  home = h;
  rounds = omega (arith, p.holds.count, p.holds.routed, upto_routed s at d (omega arith));
  room = omega (arith, p.holds.routed, room_next s at d);
}

-- ---- a depot sets stops aside
member : (s at : List ℕ) (d x : ℕ) → 0 < count x (members_of s at d) → x < rows_of s
unfolding members_of
member s at d x h =
    let t = stop_counted (is_stop s x && eqb (get_or at x 0) d) (omega (arith, stops_count s (λ c. eqb (get_or at c 0) d) x)) in
    ltb→lt x (rows_of s) (and_r (leb (depots_of s) x) (ltb x (rows_of s)) (and_l (is_stop s x) (eqb (get_or at x 0) d) t))

pub aside_members : (s at : List ℕ) (d x : ℕ) → count x (planned_of s d (members_of s at d)).aside ≤ count x (members_of s at d)
aside_members s at d x =
    let o = planned_of s d (members_of s at d) in
    omega (arith, planned_keeps s d (members_of s at d) x, ap (count x) (chains_aside o.rounds o.aside), count_append x (chains o.rounds []) o.aside)

aside_row : (s at : List ℕ) (d k : ℕ) → k < length (planned_of s d (members_of s at d)).aside → get_or (planned_of s d (members_of s at d)).aside k 0 < rows_of s
aside_row s at d k h =
    let o = planned_of s d (members_of s at d) in
    let x = get_or o.aside k 0 in
    member s at d x (omega (arith, count_at o.aside k h, aside_members s at d x))

aside_known : (s at marks : List ℕ) (d : ℕ) → rows_of s ≤ length marks → (k : ℕ) → k < length (planned_of s d (members_of s at d)).aside → get_or (planned_of s d (members_of s at d)).aside k 0 < length marks
aside_known s at marks d l k h = omega (arith, aside_row s at d k h)

-- ---- a depot laid down, and its stops set aside marked
module _ (s at marks : List ℕ) (d : ℕ) (long : rows_of s ≤ length marks)
    {stops ends vehicles : List ℕ} {f : Filled} {stops' ends' vehicles' : List ℕ} {done : Filled} {total : ℕ} (laid : DepotLaid stops ends vehicles f (planned_of s d (members_of s at d)) stops' ends' vehicles' done total) where
  -- the stops that are to be marked
  pub turned_known : (k : ℕ) → done.routed ≤ k → k < total → get_or stops' k 0 < length marks
  turned_known k l h =
      let n = length-take-le (total - done.routed) (drop done.routed stops') (omega (arith, laid.within, length-drop done.routed stops')) in
      let g = get_or-take (total - done.routed) (drop done.routed stops') (k - done.routed) 0 (omega arith) ∙ get_or-drop done.routed stops' (k - done.routed) 0 in
      let j : done.routed + (k - done.routed) ≡ k = omega arith in
      rw (← j, ← g, laid.aside) (aside_known s at marks d long (k - done.routed) (omega (arith, n, ap length laid.aside)))

-- ---- behind the depots before it
pub planned_more : {s : List ℕ} (at : List ℕ) {marks stops ends vehicles : List ℕ} (d : ℕ) {f : Filled} {marks' stops' ends' vehicles' : List ℕ} {done : Filled} → Planned s marks stops ends vehicles f (planned_upto s at d)
    → Added marks stops ends vehicles f (planned_of s d (members_of s at d)) marks' stops' ends' vehicles' done → Planned s marks' stops' ends' vehicles' done (planned_upto s at (d + 1))
unfolding planned_upto
planned_more {s} at {marks} d p a = rw (add-one d) (record {
  holds = a.holds (planned_upto s at d).rounds p.holds;
  turned = rw a.turned (marks_more s (planned_of s d (members_of s at d)).aside marks (planned_upto s at d).aside (aside_known s at marks d p.turned.long) p.turned);
})

pub planned_none : (s at marks stops ends vehicles : List ℕ) → rows_of s ≤ length marks → Planned s (replicate (length marks) 0) stops ends vehicles empty (planned_upto s at 0)
unfolding planned_upto
planned_none s at marks stops ends vehicles h = record { holds = holds_none stops ends vehicles; turned = marks_none s marks h }
