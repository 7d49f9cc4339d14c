-- Tables that hold rounds from their start on: with a round's outcome laid down behind them they hold more, and with the stops set aside they are an outcome's. Assumes nothing.
use Rattle.std.specs.Prelude.{◌≡◌, ℕ, zero, suc, ◌+◌, ◌-◌, ◌≤◌, ◌<◌, Bool, true, false, ◌&&◌, List, [], ◌∷◌, ◌++◌, T, leb, ltb, length, get_or, take, drop}
use Rattle.std.proofs.Math.Path.{refl}
use Rattle.std.proofs.Common.{sym, ap, ◌∙◌, subst, zero-add, add-one, arith, append_assoc, ltb→lt, length-append, length-drop, length-take, drop_of_length-le, length-take-le, take_at, drop_at, take-take, take-add, drop-cons, drop-drop, get_or-drop, get_or-take, ltb-true, ltb-false}
use Rattle.std.specs.Float.Ieee.Fits.{and_l, and_r}
use Rattle.std.proofs.Math.Seq.{take-append_seam, drop-append_seam}
use Rattle.lists.specs.Laws.Once.{distinct_few}
use Rattle.wire.specs.Bytes.{write}
use Rattle.wire.specs.Laws.Bytes.{take_write}
use Rattle.sheet.specs.Fields.{rows_of, vehicles_of}
use Rattle.sheet.specs.Depots.{depots_of}
use Rattle.sheet.specs.Accepted.{Accepted}
use Rattle.sheet.specs.Stops.{is_stop}
use Rattle.constructive.specs.declared.tables.Filled.{Filled}
use Rattle.constructive.specs.Members.{part}
use Rattle.constructive.specs.Outcome.{Round, Outcome, rounds_in, start_in, outcome_in, chains, stops_of}
use Rattle.constructive.specs.Tables.{Tables}
use Rattle.constructive.specs.Right.{ids_known, links_right, each_once, outcome_right}
use Rattle.constructive.specs.Laws.Right.{stops_right, distinct_right}
use Rattle.constructive.specs.Laws.Stored.{chains_aside, chains_append, length_routed, length_ends, length_vehicles, routed_append, ends_append, vehicles_append}
use Rattle.constructive.specs.Stored.{ends_from, vehicles_from, routed_in, filled_by, Stored}
use Rattle.constructive.specs.TableContents.{HoldsRounds, HoldsOutcome}

abbrev pub empty : Filled
empty = record { rounds = 0; routed = 0 }

-- as `Filled::default` tells
pub is_empty : {f : Filled} → (f.rounds ≡ 0) × (f.routed ≡ 0) → f ≡ empty
is_empty {f} e = let told : ◌≡◌ {A = Filled} (record { rounds = f.rounds; routed = f.routed }) empty = rw (e.0, e.1) in told

-- ---- a part of a table
pub part_long : (t : List ℕ) (from to : ℕ) → to ≤ length t → length (part t from to) ≡ to - from
part_long t from to h = length-take-le (to - from) (drop from t) (omega (arith, length-drop from t))

pub part_at : (t : List ℕ) (from to k : ℕ) → k < to - from → get_or (part t from to) k 0 ≡ get_or t (from + k) 0
part_at t from to k h = get_or-take (to - from) (drop from t) k 0 h ∙ get_or-drop from t k 0

-- ---- they hold nothing at first, and more after a constructor
pub holds_none : (stops ends vehicles : List ℕ) → HoldsRounds stops ends vehicles empty []
unfolding chains ends_from vehicles_from routed_in
holds_none stops ends vehicles = record { count = refl; routed = refl; stopped = refl; ended = refl; driven = refl }

-- what is written behind them changes nothing
pub take_behind : (s : List ℕ) (at : ℕ) (xs : List ℕ) → at + length xs ≤ length s → take at (write s at xs) ≡ take at s
unfolding write
take_behind s at xs h = take_at (take at s) (xs ++ drop (at + length xs) s) at (length-take-le at s (omega arith))

-- nor what is written behind a part of it
take_part : (s : List ℕ) (at : ℕ) (xs ys : List ℕ) (n : ℕ) → at + length (xs ++ ys) ≤ length s → length xs ≡ n → take (at + n) (write s at (xs ++ ys)) ≡ take at s ++ xs
unfolding write
take_part s at xs ys n h e =
    let l : length (take at s ++ xs) ≡ at + n = simp (length-append) (omega (arith, length-append xs ys, length-take-le at s (omega arith))) in
    ap (take (at + n)) (ap (λ (l : List ℕ). take at s ++ l) (append_assoc xs ys (drop (at + length (xs ++ ys)) s)) ∙ sym (append_assoc (take at s) xs (ys ++ drop (at + length (xs ++ ys)) s)))
    ∙ take_at (take at s ++ xs) (ys ++ drop (at + length (xs ++ ys)) s) (at + n) l

take_whole : (s : List ℕ) (at : ℕ) (xs : List ℕ) (n : ℕ) → at + n ≤ length s → length xs ≡ n → take (at + n) (write s at xs) ≡ take at s ++ xs
take_whole s at xs n h e = rw (← e) (take_write s at xs (omega arith))

module _ (stops ends vehicles : List ℕ) (f : Filled) (rounds : List Round) (holds : HoldsRounds stops ends vehicles f rounds) where
  pub holds_behind : (xs : List ℕ) → f.routed + length xs ≤ length stops → HoldsRounds (write stops f.routed xs) ends vehicles f rounds
  holds_behind xs h = record { count = holds.count; routed = holds.routed; stopped = take_behind stops f.routed xs h ∙ holds.stopped; ended = holds.ended; driven = holds.driven }

  module _ (o : Outcome) (stops' ends' vehicles' : List ℕ) (laid : Stored stops ends vehicles f o stops' ends' vehicles') (room : f.routed + length (stops_of o) ≤ length stops) (ended : f.rounds + length o.rounds ≤ length ends) (driven : f.rounds + length o.rounds ≤ length vehicles) where
    more_stops : take (f.routed + routed_in o.rounds) stops' ≡ chains (rounds ++ o.rounds) []
    more_stops =
        rw (laid.stopped, chains_aside o.rounds o.aside)
        (take_part stops f.routed (chains o.rounds []) o.aside (routed_in o.rounds) (rw (chains_aside o.rounds o.aside) at room) (length_routed o.rounds)
        ∙ ap (λ (l : List ℕ). l ++ chains o.rounds []) holds.stopped
        ∙ sym (chains_append rounds o.rounds [] ∙ chains_aside rounds (chains o.rounds [])))

    more_ends : take (f.rounds + length o.rounds) ends' ≡ ends_from 0 (rounds ++ o.rounds)
    more_ends =
        rw laid.ended
        (take_whole ends f.rounds (ends_from f.routed o.rounds) (length o.rounds) ended (length_ends f.routed o.rounds)
        ∙ rw (holds.ended, holds.routed, ends_append 0 rounds o.rounds, zero-add))

    more_vehicles : take (f.rounds + length o.rounds) vehicles' ≡ vehicles_from (rounds ++ o.rounds)
    more_vehicles =
        rw laid.driven
        (take_whole vehicles f.rounds (vehicles_from o.rounds) (length o.rounds) driven (length_vehicles o.rounds)
        ∙ rw (holds.driven, vehicles_append rounds o.rounds))

    pub holds_more : HoldsRounds stops' ends' vehicles' (filled_by f o.rounds) (rounds ++ o.rounds)
    holds_more = record {
      count = omega (arith, holds.count, length-append rounds o.rounds);
      routed = omega (arith, holds.routed, routed_append rounds o.rounds);
      stopped = more_stops;
      ended = more_ends;
      driven = more_vehicles;
    }

-- ---- what the tables hold is read from them
head_of : (l : List ℕ) (k m x : ℕ) (xs : List ℕ) → take (suc m) (drop k l) ≡ x ∷ xs → (get_or l k 0 ≡ x) × (take m (drop (k + 1) l) ≡ xs)
head_of l k m x xs e = go (ltb k (length l)) refl
  where
    go : (b : Bool) → ltb k (length l) ≡ b → (get_or l k 0 ≡ x) × (take m (drop (k + 1) l) ≡ xs)
    go true t =
        let h = ltb-true k (length l) t in
        let q : get_or l k 0 ∷ take m (drop (suc k) l) ≡ x ∷ xs = ap (take (suc m)) (sym (drop-cons l k 0 h)) ∙ e in
        (cc, rw add-one (cc))
    go false t =
        let q : [] ≡ x ∷ xs = ap (take (suc m)) (sym (drop_of_length-le l {i = k} (ltb-false k (length l) t))) ∙ e in
        absurd (let n = ap length q in omega arith)

-- two parts that are two parts
parts_of_lem : (l xs ys : List ℕ) (m : ℕ) → take (length xs + m) l ≡ xs ++ ys → (take (length xs) l ≡ xs) × (take m (drop (length xs) l) ≡ ys)
parts_of_lem l xs ys m e =
    let a : take (length xs) l ≡ xs = sym (take-take (length xs) (length xs + m) l (omega arith)) ∙ ap (take (length xs)) e ∙ take-append_seam xs ys in (
      a,
      sym (drop_at (take (length xs) l) (take m (drop (length xs) l)) (length xs) (ap length a))
          ∙ ap (drop (length xs)) (sym (take-add (length xs) m l) ∙ e)
          ∙ drop-append_seam xs ys,
    )

rounds_in_lem : (stops ends vehicles : List ℕ) (rs : List Round) (start k : ℕ) → take (length rs) (drop k ends) ≡ ends_from start rs → take (length rs) (drop k vehicles) ≡ vehicles_from rs → take (routed_in rs) (drop start stops) ≡ chains rs [] → rounds_in stops ends vehicles (length rs) start k ≡ rs
unfolding rounds_in ends_from vehicles_from routed_in chains
rounds_in_lem stops ends vehicles [] start k e v t = refl
rounds_in_lem stops ends vehicles (r ∷ rs) start k e v t =
    let h = head_of ends k (length rs) (start + length r.stops) (ends_from (start + length r.stops) rs) e in
    let w = head_of vehicles k (length rs) r.vehicle (vehicles_from rs) v in
    let p = parts_of_lem (drop start stops) r.stops (chains rs []) (routed_in rs) t in
    let d : start + length r.stops - start ≡ length r.stops = omega arith in
    let q = drop-drop (length r.stops) start stops in
    rw (h.0, w.0, d, p.0, rounds_in_lem stops ends vehicles rs (start + length r.stops) (k + 1) h.1 w.1 (rw q at p.1))

pub ends_last : (rs : List Round) (start m : ℕ) → length rs ≡ suc m → get_or (ends_from start rs) m 0 ≡ start + routed_in rs
unfolding ends_from routed_in
ends_last [] start m e = absurd (omega arith)
ends_last (r ∷ []) start zero e = omega arith
ends_last (r ∷ []) start (suc m) e = absurd (omega arith)
ends_last (r ∷ q ∷ rs) start zero e = absurd (omega arith)
ends_last (r ∷ q ∷ rs) start (suc m) e = ends_last (q ∷ rs) (start + length r.stops) m (omega arith) ∙ omega arith

ends_rise : (rs : List Round) (start k : ℕ) → suc k < length rs → get_or (ends_from start rs) k 0 ≤ get_or (ends_from start rs) (suc k) 0
unfolding ends_from
ends_rise [] start k h = absurd (omega arith)
ends_rise (r ∷ []) start k h = absurd (omega arith)
ends_rise (r ∷ q ∷ rs) start zero h = omega arith
ends_rise (r ∷ q ∷ rs) start (suc k) h = ends_rise (q ∷ rs) (start + length r.stops) k (omega arith)

ends_within : (rs : List Round) (start k : ℕ) → k < length rs → get_or (ends_from start rs) k 0 ≤ start + routed_in rs
unfolding ends_from routed_in
ends_within [] start k h = absurd (omega arith)
ends_within (r ∷ rs) start zero h = omega arith
ends_within (r ∷ rs) start (suc k) h = omega (arith, ends_within rs (start + length r.stops) k (omega arith))

known_at : (s : List ℕ) (rs : List Round) (k : ℕ) → T (ids_known s rs) → k < length rs → get_or (vehicles_from rs) k 0 < vehicles_of s
unfolding ids_known vehicles_from
known_at s [] k t h = absurd (omega arith)
known_at s (r ∷ rs) zero t h = ltb→lt r.vehicle (vehicles_of s) (and_l (ltb r.vehicle (vehicles_of s)) (ids_known s rs) t)
known_at s (r ∷ rs) (suc k) t h = known_at s rs k (and_r (ltb r.vehicle (vehicles_of s)) (ids_known s rs) t) (omega arith)

links_at : (s xs : List ℕ) (k : ℕ) → T (links_right s xs) → k < length xs → get_or xs k 0 < rows_of s
unfolding links_right
links_at s [] k t h = absurd (omega arith)
links_at s (x ∷ xs) zero t h = ltb→lt x (rows_of s) (and_r (leb (depots_of s) x) (ltb x (rows_of s)) (and_l (is_stop s x) (links_right s xs) t))
links_at s (x ∷ xs) (suc k) t h = links_at s xs k (and_r (is_stop s x) (links_right s xs) t) (omega arith)

-- a table that starts so is long enough
pub long_enough : {A : Type 0} (l xs : List A) (n : ℕ) → take n l ≡ xs → length xs ≡ n → n ≤ length l
long_enough l xs n e h = omega (arith, ap length e, length-take n l)

pub none_routed : (rs : List Round) → length rs ≡ 0 → routed_in rs ≡ 0
unfolding routed_in
none_routed [] e = refl
none_routed (r ∷ rs) e = absurd (omega arith)

module _ (stops ends vehicles : List ℕ) (f : Filled) (total : ℕ) (o : Outcome) (held : HoldsOutcome stops ends vehicles f total o) where
  holds : HoldsRounds stops ends vehicles f o.rounds
  holds = held.holds

  end_at : (k : ℕ) → k < f.rounds → get_or ends k 0 ≡ get_or (ends_from 0 o.rounds) k 0
  end_at k h = sym (get_or-take f.rounds ends k 0 h) ∙ ap (λ (l : List ℕ). get_or l k 0) holds.ended

  start_of : (n : ℕ) → f.rounds ≡ n → start_in ends n ≡ f.routed
  start_of zero e = sym (holds.routed ∙ none_routed o.rounds (sym holds.count ∙ e))
  start_of (suc n) e = end_at n (omega arith) ∙ ends_last o.rounds 0 n (omega (arith, holds.count)) ∙ omega (arith, holds.routed)

  held_rounds : rounds_in stops ends vehicles f.rounds 0 0 ≡ o.rounds
  held_rounds = rw holds.count (rounds_in_lem stops ends vehicles o.rounds 0 0 (rw holds.count at holds.ended) (rw holds.count at holds.driven) (rw holds.routed at holds.stopped))

  -- the tables' outcome is this one
  pub held_outcome : outcome_in stops ends vehicles f.rounds total ≡ o
  unfolding outcome_in
  held_outcome = rw (start_of f.rounds refl, held_rounds, held.aside)

  held_stops : take total stops ≡ stops_of o
  held_stops =
      let e : f.routed + (total - f.routed) ≡ total = omega (arith, held.from) in
      rw (← e, take-add f.routed (total - f.routed) stops, holds.stopped, chains_aside o.rounds o.aside, held.aside)

  module _ (s : List ℕ) (a : Accepted s) (right : T (outcome_right s o)) (few : length o.rounds ≤ rows_of s) where
    known : T (ids_known s o.rounds)
    unfolding outcome_right
    known = and_l (ids_known s o.rounds) (links_right s (stops_of o) && each_once s (stops_of o)) right

    both : T (links_right s (stops_of o) && each_once s (stops_of o))
    unfolding outcome_right
    both = and_r (ids_known s o.rounds) (links_right s (stops_of o) && each_once s (stops_of o)) right

    links : T (links_right s (stops_of o))
    links = and_l (links_right s (stops_of o)) (each_once s (stops_of o)) both

    long : length (stops_of o) ≡ total
    long = ap length (sym held_stops) ∙ length-take-le total stops held.within

    most : total ≤ rows_of s
    most = rw long at (distinct_few (rows_of s) (stops_of o) (stops_right s (stops_of o) links) (distinct_right s (stops_of o) links (and_r (links_right s (stops_of o)) (each_once s (stops_of o)) both)))

    rises : (k : ℕ) → k < f.rounds → start_in ends k ≤ get_or ends k 0
    rises zero h = omega arith
    rises (suc k) h = rw (end_at k (omega arith), end_at (suc k) h) (ends_rise o.rounds 0 k (omega (arith, holds.count)))

    -- and the writer takes them
    pub held_tables : Tables s stops ends vehicles f.rounds total
    held_tables = record {
      sheet = a;
      few = omega (arith, holds.count);
      ended = long_enough ends (ends_from 0 o.rounds) f.rounds holds.ended (length_ends 0 o.rounds ∙ sym holds.count);
      fleet = long_enough vehicles (vehicles_from o.rounds) f.rounds holds.driven (length_vehicles o.rounds ∙ sym holds.count);
      all = held.within;
      most = let m = a.sized.rows in omega (arith, most);
      ascending = rises;
      within = λ k h. rw (end_at k h) (omega (arith, ends_within o.rounds 0 k (omega (arith, holds.count)), holds.routed, held.from));
      row = λ i h. subst (λ (x : ℕ). x < rows_of s) (ap (λ (l : List ℕ). get_or l i 0) (sym held_stops) ∙ get_or-take total stops i 0 h) (links_at s (stops_of o) i links (omega (arith, long)));
      vehicle = λ k h. subst (λ (x : ℕ). x < vehicles_of s) (ap (λ (l : List ℕ). get_or l k 0) (sym holds.driven) ∙ get_or-take f.rounds vehicles k 0 h) (known_at s o.rounds k known (omega (arith, holds.count)));
    }
