-- Where a round stands in the tables of an outcome, and when tables are an outcome's. Assumes nothing.
use Rattle.std.specs.Prelude.{◌≡◌, ℕ, zero, suc, ◌+◌, ◌-◌, ◌≤◌, ◌<◌, length, get_or, take, drop}
use Rattle.std.proofs.Common.{sym, ◌∙◌, arith, length-append, length-drop, length-take-le, take-take, take-add, take_at, drop_at, get_or-take}
use Rattle.std.proofs.Math.Path.{ap}
use Rattle.std.proofs.Math.Nat.{zero-add}
use mathlib.Core.List.{List, [], ◌∷◌, ◌++◌}
use Rattle.std.proofs.Math.Seq.{drop-append-add, split_at}
use Rattle.std.proofs.lemmas.List.{get_or_at}
use Rattle.constructive.specs.Outcome.{Round, Outcome, start_in, chains, round_at}
use Rattle.constructive.specs.Stored.{ends_from, vehicles_from, routed_in}
use Rattle.constructive.specs.Laws.Stored.{chains_aside, chains_append, length_routed, length_ends, length_vehicles, routed_append, ends_append, vehicles_append}
use Rattle.constructive.specs.Members.{part}
use Rattle.constructive.specs.Laws.TableContents.{ends_last, none_routed, long_enough}
use Rattle.fleet_tables.specs.Promises.{TablesOf}

-- ---- parts of a table
-- what stands behind the first of so many
pub part_behind : (t : List ℕ) (k n : ℕ) → k ≤ n → n ≤ length t → part t k n ≡ drop k (take n t)
part_behind t k n h l =
    let e : k + (n - k) ≡ n = omega arith in
    sym (ap (λ (m : ℕ). drop k (take m t)) (sym e) ∙ ap (drop k) (take-add k (n - k) t) ∙ drop_at (take k t) (take (n - k) (drop k t)) k (length-take-le k t (omega arith)))

module _ (t xs : List ℕ) (y : ℕ) (ys : List ℕ) (k n : ℕ) (e : take n t ≡ xs ++ (y ∷ ys)) (l : length xs ≡ k) (h : n ≤ length t) where
  pub parts_long : n ≡ k + suc (length ys)
  parts_long = sym (length-take-le n t h) ∙ ap length e ∙ length-append xs (y ∷ ys) ∙ omega arith

  pub parts_before : take k t ≡ xs
  parts_before = let u = parts_long in sym (take-take k n t (omega arith)) ∙ ap (take k) e ∙ take_at xs (y ∷ ys) k l

  pub parts_at : get_or t k 0 ≡ y
  parts_at = let u = parts_long in sym (get_or-take n t k 0 (omega arith)) ∙ ap (λ (r : List ℕ). get_or r k 0) e ∙ get_or_at xs y ys 0 k l

  pub parts_from : part t k n ≡ y ∷ ys
  parts_from = let u = parts_long in part_behind t k n (omega arith) h ∙ ap (drop k) e ∙ drop_at xs (y ∷ ys) k l

  pub parts_behind : part t (k + 1) n ≡ ys
  parts_behind = let u = parts_long in part_behind t (k + 1) n (omega arith) h ∙ ap (drop (k + 1)) e ∙ rw (← l) (drop-append-add xs (y ∷ ys) 1)

-- ---- where rounds end
start_upto : (ends : List ℕ) (rs : List Round) (k : ℕ) → length rs ≡ k → take k ends ≡ ends_from 0 rs → start_in ends k ≡ routed_in rs
start_upto ends rs zero l e = sym (none_routed rs l)
start_upto ends rs (suc m) l e = sym (get_or-take (suc m) ends m 0 (omega arith)) ∙ ap (λ (t : List ℕ). get_or t m 0) e ∙ ends_last rs 0 m l ∙ omega arith

-- ---- one round of an outcome's tables
module _ (stops ends vehicles : List ℕ) (n total : ℕ) (o : Outcome) (held : TablesOf stops ends vehicles n total o) where
  pub ends_long : n ≤ length ends
  ends_long = long_enough ends (ends_from 0 o.rounds) n held.holds.ended (length_ends 0 o.rounds ∙ sym held.holds.count)

  pub vehicles_long : n ≤ length vehicles
  vehicles_long = long_enough vehicles (vehicles_from o.rounds) n held.holds.driven (length_vehicles o.rounds ∙ sym held.holds.count)

  pub total_long : total ≡ routed_in o.rounds + length o.aside
  total_long =
      let l = length-take-le (total - start_in ends n) (drop (start_in ends n) stops) (omega (arith, held.from, held.within, length-drop (start_in ends n) stops)) in
      omega (arith, l, ap length held.aside, held.from, held.holds.routed)

  -- all stops of the outcome, in the order of the table
  pub stops_upto : take total stops ≡ chains o.rounds [] ++ o.aside
  stops_upto =
      let e : start_in ends n + (total - start_in ends n) ≡ total = omega (arith, held.from) in
      rw (← e, take-add (start_in ends n) (total - start_in ends n) stops, held.holds.stopped, held.aside)

  module _ (k : ℕ) (h : k < n) where
    abbrev pub before : List Round
    before = take k o.rounds

    abbrev pub here : Round
    here = round_at o.rounds k

    abbrev pub behind : List Round
    behind = drop (suc k) o.rounds

    inside : k < length o.rounds
    inside = omega (arith, held.holds.count)

    pub round_split : o.rounds ≡ before ++ (here ∷ behind)
    round_split = split_at o.rounds k (record { vehicle = 0; stops = [] }) inside

    pub before_long : length before ≡ k
    before_long = length-take-le k o.rounds (omega (arith, inside))

    pub ends_split : take n ends ≡ ends_from 0 before ++ ((routed_in before + length here.stops) ∷ ends_from (routed_in before + length here.stops) behind)
    unfolding ends_from
    ends_split = held.holds.ended ∙ ap (ends_from 0) round_split ∙ (rw zero-add at (ends_append 0 before (here ∷ behind)))

    pub vehicles_split : take n vehicles ≡ vehicles_from before ++ (here.vehicle ∷ vehicles_from behind)
    unfolding vehicles_from
    vehicles_split = held.holds.driven ∙ ap vehicles_from round_split ∙ vehicles_append before (here ∷ behind)

    long_ends : length (ends_from 0 before) ≡ k
    long_ends = length_ends 0 before ∙ before_long

    pub starts_at : start_in ends k ≡ routed_in before
    starts_at = start_upto ends before k before_long (parts_before ends (ends_from 0 before) _ _ k n ends_split long_ends ends_long)

    pub ends_at : get_or ends k 0 ≡ routed_in before + length here.stops
    ends_at = parts_at ends (ends_from 0 before) _ _ k n ends_split long_ends ends_long

    pub routed_split : start_in ends n ≡ routed_in before + (length here.stops + routed_in behind)
    unfolding routed_in
    routed_split = held.holds.routed ∙ ap routed_in round_split ∙ routed_append before (here ∷ behind)

    pub stops_split : take (start_in ends n) stops ≡ chains before [] ++ (here.stops ++ chains behind [])
    unfolding chains
    stops_split = held.holds.stopped ∙ ap (λ (rs : List Round). chains rs []) round_split ∙ chains_append before (here ∷ behind) [] ∙ chains_aside before (here.stops ++ chains behind [])

    pub ends_inside : (start_in ends k ≤ get_or ends k 0) × (get_or ends k 0 ≤ start_in ends n)
    ends_inside = (omega (arith, starts_at, ends_at), omega (arith, ends_at, routed_split))

  -- rounds end one after another
  routed_take : (j m : ℕ) → j ≤ m → routed_in (take j o.rounds) ≤ routed_in (take m o.rounds)
  routed_take j m h =
      let e : j + (m - j) ≡ m = omega arith in
      omega (arith, ap routed_in (ap (λ (i : ℕ). take i o.rounds) (sym e) ∙ take-add j (m - j) o.rounds), routed_append (take j o.rounds) (take (m - j) (drop j o.rounds)))

  pub ends_rise : (j m : ℕ) → j < m → m < n → get_or ends j 0 ≤ get_or ends m 0
  ends_rise j m h l = omega (arith, starts_at (suc j) (omega arith), starts_at m l, (ends_inside m l).0, routed_take (suc j) m h)

-- ---- tables that are an outcome's
module _ (stops ends vehicles : List ℕ) (n total : ℕ) (o : Outcome) (count : n ≡ length o.rounds) (ended : take n ends ≡ ends_from 0 o.rounds) (driven : take n vehicles ≡ vehicles_from o.rounds)
    (all : take total stops ≡ chains o.rounds [] ++ o.aside) (long : total ≡ routed_in o.rounds + length o.aside) (within : total ≤ length stops) where
  routed : start_in ends n ≡ routed_in o.rounds
  routed = start_upto ends o.rounds n (sym count) ended

  front : length (chains o.rounds []) ≡ start_in ends n
  front = length_routed o.rounds ∙ sym routed

  pub tabled : TablesOf stops ends vehicles n total o
  tabled = record {
    holds = record {
      count = count;
      routed = routed;
      stopped = sym (take-take (start_in ends n) total stops (omega (arith, routed, long))) ∙ ap (take (start_in ends n)) all ∙ take_at (chains o.rounds []) o.aside (start_in ends n) front;
      ended = ended;
      driven = driven;
    };
    from = omega (arith, routed, long);
    within = within;
    aside = part_behind stops (start_in ends n) total (omega (arith, routed, long)) within ∙ ap (drop (start_in ends n)) all ∙ drop_at (chains o.rounds []) o.aside (start_in ends n) front;
  }
