-- Tables that the writer takes are those of their outcome, and back. Assumes nothing.
use Rattle.std.specs.Prelude.{◌≡◌, take, drop}
use Rattle.std.proofs.Math.Path.{refl, ap}
use Rattle.std.proofs.Common.{sym, ◌∙◌, length-append, take-take, get_or-take}
use Prim.Native.Nat.{ℕ, zero, suc, ◌+◌, ◌-◌, ◌≤◌, ◌<◌}
use Rattle.std.proofs.Math.Numerals.{add-one}
use native.Mathlib.Omega.{arith}
use mathlib.Core.List.{List, [], ◌∷◌, ◌++◌, append-nil, append_assoc}
use Rattle.std.proofs.Math.ListN.{length, get_or, length-drop}
use Rattle.std.proofs.Math.Seq.{length-take-le, take-length, take-append-add, drop-cons}
use Rattle.lists.specs.Every.{Every}
use Rattle.lists.specs.Laws.Every.{every_of, every_at, every_append, every_take, every_drop}
use Rattle.lists.specs.Moved.{without, inserted}
use Rattle.lists.specs.Laws.Moved.{without_every, inserted_every}
use Rattle.sheet.specs.Fields.{rows_of, vehicles_of, most_rows}
use Rattle.sheet.specs.Accepted.{Accepted}
use Rattle.constructive.specs.Outcome.{Round, Outcome, rounds_in, start_in, outcome_in, chains, stops_of, round_at}
use Rattle.constructive.specs.Laws.Stored.{length_rounds, chains_aside, length_vehicles}
use Rattle.constructive.specs.Stored.{ends_from, vehicles_from, routed_in}
use Rattle.constructive.specs.Tables.{Tables}
use Rattle.constructive.specs.Laws.TableStops.{stops_in}
use Rattle.fleet.specs.Limit.{put_in}
use Rattle.fleet_tables.specs.Promises.{TablesOf, taken_out, taken_in}
use Rattle.fleet_tables.specs.Laws.Places.{total_long, stops_upto, ends_long, vehicles_long, vehicles_split, before_long, ends_inside, parts_at, tabled}

-- ---- tables are those of their outcome
module _ (s stops ends vehicles : List ℕ) (n total : ℕ) (ok : Tables s stops ends vehicles n total) where
  route_long : (start k : ℕ) → k < n → start ≡ start_in ends k → length (take (get_or ends k 0 - start) (drop start stops)) ≡ get_or ends k 0 - start
  route_long start k h e = length-take-le (get_or ends k 0 - start) (drop start stops) (omega (arith, length-drop start stops, ok.within k h, ok.all))

  -- the m rounds from the k-th on
  routed_from : (m start k : ℕ) → start ≡ start_in ends k → k + m ≡ n → start + routed_in (rounds_in stops ends vehicles m start k) ≡ start_in ends n
  unfolding rounds_in routed_in
  routed_from zero start k e f = let q : k ≡ n = omega arith in omega (arith, e, ap (start_in ends) q)
  routed_from (suc m) start k e f =
      let h : k < n = omega arith in
      omega (arith, route_long start k h e, ok.ascending k h, routed_from m (get_or ends k 0) (k + 1) (rw add-one) (omega arith))

  ends_from_lem : (m start k : ℕ) → start ≡ start_in ends k → k + m ≡ n → take m (drop k ends) ≡ ends_from start (rounds_in stops ends vehicles m start k)
  unfolding rounds_in ends_from
  ends_from_lem zero start k e f = refl
  ends_from_lem (suc m) start k e f =
      let h : k < n = omega arith in
      let d : start + length (take (get_or ends k 0 - start) (drop start stops)) ≡ get_or ends k 0 = omega (arith, route_long start k h e, ok.ascending k h) in
      rw (d, drop-cons ends k 0 (omega (arith, ok.ended)), ← add-one k, ends_from_lem m (get_or ends k 0) (k + 1) (rw add-one) (omega arith))

  vehicles_from_lem : (m start k : ℕ) → k + m ≡ n → take m (drop k vehicles) ≡ vehicles_from (rounds_in stops ends vehicles m start k)
  unfolding rounds_in vehicles_from
  vehicles_from_lem zero start k f = refl
  vehicles_from_lem (suc m) start k f =
      rw (drop-cons vehicles k 0 (omega (arith, ok.fleet)), ← add-one k, vehicles_from_lem m (get_or ends k 0) (k + 1) (omega arith))

  pub tables_tabled : TablesOf stops ends vehicles n total (outcome_in stops ends vehicles n total)
  unfolding outcome_in
  tables_tabled =
      let rounds = rounds_in stops ends vehicles n 0 0 in
      let r = routed_from n 0 0 refl (omega arith) in
      let w = last_within n refl in
      tabled stops ends vehicles n total (outcome_in stops ends vehicles n total) (sym (length_rounds stops ends vehicles n 0 0)) (ends_from_lem n 0 0 refl (omega arith)) (vehicles_from_lem n 0 0 (omega arith))
      (sym (stops_in s stops ends vehicles n total ok) ∙ chains_aside rounds (take (total - start_in ends n) (drop (start_in ends n) stops)))
      (omega (arith, r, w, length-take-le (total - start_in ends n) (drop (start_in ends n) stops) (omega (arith, length-drop (start_in ends n) stops, ok.all))))
      ok.all
    where
      last_within : (m : ℕ) → m ≡ n → start_in ends m ≤ total
      last_within zero e = omega arith
      last_within (suc m) e = ok.within m (omega arith)

-- ---- what they hold are rows and vehicles of the sheet
pub record Sound (s : List ℕ) (o : Outcome) : Type 0 where
  pub rows : Every (λ (x : ℕ). x < rows_of s) (stops_of o)
  pub fleet : Every (λ (r : Round). r.vehicle < vehicles_of s) o.rounds

module _ (s stops ends vehicles : List ℕ) (n total : ℕ) (ok : Tables s stops ends vehicles n total) where
  vehicles_known : (m start k : ℕ) → k + m ≡ n → Every (λ (r : Round). r.vehicle < vehicles_of s) (rounds_in stops ends vehicles m start k)
  unfolding rounds_in
  vehicles_known zero start k f = tt
  vehicles_known (suc m) start k f = (ok.vehicle k (omega arith), vehicles_known m (get_or ends k 0) (k + 1) (omega arith))

  pub tables_sound : Sound s (outcome_in stops ends vehicles n total)
  unfolding outcome_in
  tables_sound =
      let l = length-take-le total stops ok.all in
      record {
        rows = rw (stops_in s stops ends vehicles n total ok) (every_of (λ (x : ℕ). x < rows_of s) 0 (take total stops) (λ k h. rw (get_or-take total stops k 0 (omega (arith, l))) (ok.row k (omega (arith, l)))));
        fleet = vehicles_known n 0 0 (omega arith);
      }

-- ---- so the writer takes the tables of an outcome of rows and vehicles
module _ (s stops ends vehicles : List ℕ) (n total : ℕ) (o : Outcome) (held : TablesOf stops ends vehicles n total o) where
  vehicle_at_lem : (k : ℕ) (h : k < n) → get_or vehicles k 0 ≡ (round_at o.rounds k).vehicle
  vehicle_at_lem k h =
      parts_at vehicles (vehicles_from (take k o.rounds)) (round_at o.rounds k).vehicle (vehicles_from (drop (suc k) o.rounds)) k n (vehicles_split stops ends vehicles n total o held k h)
      (length_vehicles (take k o.rounds) ∙ before_long stops ends vehicles n total o held k h) (vehicles_long stops ends vehicles n total o held)

  pub sound_tables : Sound s o → Accepted s → n ≤ rows_of s → total ≤ most_rows → Tables s stops ends vehicles n total
  sound_tables sound a few most =
      let upto : take total stops ≡ stops_of o = stops_upto stops ends vehicles n total o held ∙ sym (chains_aside o.rounds o.aside) in
      let l = ap length (sym upto) ∙ length-take-le total stops held.within in
      record {
        sheet = a;
        few = few;
        ended = ends_long stops ends vehicles n total o held;
        fleet = vehicles_long stops ends vehicles n total o held;
        all = held.within;
        most = most;
        ascending = λ k h. (ends_inside stops ends vehicles n total o held k h).0;
        within = λ k h. omega (arith, (ends_inside stops ends vehicles n total o held k h).1, held.from);
        row = λ i h. rw (← get_or-take total stops i 0 h, upto) (every_at (λ (x : ℕ). x < rows_of s) 0 (stops_of o) i (omega (arith, l)) sound.rows);
        vehicle = λ k h. rw (vehicle_at_lem k h) (every_at (λ (r : Round). r.vehicle < vehicles_of s) (record { vehicle = 0; stops = [] }) o.rounds k (omega (arith, held.holds.count)) sound.fleet);
      }

  -- and the rounds alone
  abbrev pub routed : ℕ
  routed = start_in ends n

  routed_long : length (take routed stops) ≡ routed
  routed_long = length-take-le routed stops (omega (arith, held.from, held.within))

  pub rounds_tabled : TablesOf (take routed stops) ends vehicles n routed (record { rounds = o.rounds; aside = [] })
  rounds_tabled = tabled (take routed stops) ends vehicles n routed (record { rounds = o.rounds; aside = [] }) held.holds.count held.holds.ended held.holds.driven
      (take-take routed routed stops (omega arith) ∙ held.holds.stopped ∙ sym (append-nil (chains o.rounds [])))
      (omega (arith, held.holds.routed))
      (omega (arith, routed_long))

-- ---- a round less, a stop more
module _ {A : Type 0} (P : A → Type 0) where
  every_left : (xs ys : List A) → Every P (xs ++ ys) → Every P xs
  every_left [] ys e = tt
  every_left (x ∷ xs) ys e = (e.0, every_left xs ys e.1)

  every_right : (xs ys : List A) → Every P (xs ++ ys) → Every P ys
  every_right [] ys e = e
  every_right (x ∷ xs) ys e = every_right xs ys e.1

module _ (P : ℕ → Type 0) where
  abbrev All : Round → Type 0
  All r = Every P r.stops

  chains_rounds : (rs : List Round) (aside : List ℕ) → Every P (chains rs aside) → Every All rs
  unfolding chains
  chains_rounds [] aside e = tt
  chains_rounds (r ∷ rs) aside e = (every_left P r.stops (chains rs aside) e, chains_rounds rs aside (every_right P r.stops (chains rs aside) e))

  chains_every : (rs : List Round) (aside : List ℕ) → Every All rs → Every P aside → Every P (chains rs aside)
  unfolding chains
  chains_every [] aside e f = f
  chains_every (r ∷ rs) aside e f = every_append P r.stops (chains rs aside) e.0 (chains_every rs aside e.1 f)

module _ (Q : Round → Type 0) (k x : ℕ) (f : (r : Round) → Q r → Q (record { vehicle = r.vehicle; stops = inserted k x r.stops })) where
  put_every : (i : ℕ) (rs : List Round) → Every Q rs → Every Q (put_in i k x rs)
  unfolding put_in
  put_every i [] e = tt
  put_every zero (r ∷ rs) e = (f r e.0, e.1)
  put_every (suc i) (r ∷ rs) e = (e.0, put_every i rs e.1)

module _ (s : List ℕ) (o : Outcome) (sound : Sound s o) where
  abbrev Row : ℕ → Type 0
  Row x = x < rows_of s

  abbrev Known : Round → Type 0
  Known r = r.vehicle < vehicles_of s

  rounds_sound : Every (All Row) o.rounds
  rounds_sound = chains_rounds Row o.rounds o.aside sound.rows

  pub aside_sound : Every Row o.aside
  aside_sound = every_right Row (chains o.rounds []) o.aside (rw (chains_aside o.rounds o.aside) at sound.rows)

  pub alone_sound : Sound s (record { rounds = o.rounds; aside = [] })
  alone_sound = record { rows = chains_every Row o.rounds [] rounds_sound tt; fleet = sound.fleet }

  pub out_sound : (v : ℕ) → v < length o.rounds → Sound s (taken_out v o)
  out_sound v h = record {
    rows = chains_every Row (take v o.rounds ++ drop (v + 1) o.rounds) ((round_at o.rounds v).stops ++ o.aside)
        (every_append (All Row) (take v o.rounds) (drop (v + 1) o.rounds) (every_take (All Row) v o.rounds rounds_sound) (every_drop (All Row) (v + 1) o.rounds rounds_sound))
        (every_append Row (round_at o.rounds v).stops o.aside (every_at (All Row) (record { vehicle = 0; stops = [] }) o.rounds v h rounds_sound) aside_sound);
    fleet = every_append Known (take v o.rounds) (drop (v + 1) o.rounds) (every_take Known v o.rounds sound.fleet) (every_drop Known (v + 1) o.rounds sound.fleet);
  }

  pub in_sound : (j i k : ℕ) → j < length o.aside → Sound s (taken_in j i k o)
  in_sound j i k h =
      let x = get_or o.aside j 0 in
      let p = every_at Row 0 o.aside j h aside_sound in
      record {
        rows = chains_every Row (put_in i k x o.rounds) (without j o.aside) (put_every (All Row) k x (λ r e. inserted_every k x r.stops Row p e) i o.rounds rounds_sound) (without_every Row o.aside j aside_sound);
        fleet = put_every Known k x (λ r e. e) i o.rounds sound.fleet;
      }

-- ---- rounds with their own stops behind them, and others behind those
module _ (stops rest ends vehicles : List ℕ) (n : ℕ) (rounds : List Round) (pending aside : List ℕ) where
  pub joined_tabled : TablesOf stops ends vehicles n (length stops) (record { rounds = rounds; aside = pending }) → (total : ℕ) → total ≡ length stops + length aside → total ≤ length (stops ++ rest) → take (length aside) rest ≡ aside
      → TablesOf (stops ++ rest) ends vehicles n total (record { rounds = rounds; aside = pending ++ aside })
  joined_tabled held total e within behind =
      let u = stops_upto stops ends vehicles n (length stops) (record { rounds = rounds; aside = pending }) held in
      let l = total_long stops ends vehicles n (length stops) (record { rounds = rounds; aside = pending }) held in
      tabled (stops ++ rest) ends vehicles n total (record { rounds = rounds; aside = pending ++ aside }) held.holds.count held.holds.ended held.holds.driven
      (rw e (take-append-add stops rest (length aside) ∙ rw behind (ap (λ (t : List ℕ). t ++ aside) (sym (take-length stops) ∙ u) ∙ append_assoc (chains rounds []) pending aside)))
      (omega (arith, e, l, length-append pending aside))
      within

pub joined_sound : (s : List ℕ) (rounds : List Round) (pending aside : List ℕ) → Sound s (record { rounds = rounds; aside = pending }) → Every (λ (x : ℕ). x < rows_of s) aside → Sound s (record { rounds = rounds; aside = pending ++ aside })
joined_sound s rounds pending aside sound e = record {
  rows = rw (chains_aside rounds (pending ++ aside), ← append_assoc, ← chains_aside rounds pending) (every_append (λ (x : ℕ). x < rows_of s) (chains rounds pending) aside sound.rows e);
  fleet = sound.fleet;
}
