-- Reading what the writer wrote gives the outcome back. Assumes nothing.
use Rattle.std.specs.Prelude.{◌≡◌, Bool, true, false, cond, ◌&&◌, eqb, ltb, length, get_or, Float}
use Rattle.std.proofs.Math.Path.{refl, ap}
use Rattle.std.proofs.Common.{sym, ◌∙◌, subst, add-zero, zero-add, arith}
use Prim.Native.Nat.{ℕ, zero, suc, ◌+◌, ◌*◌, ◌≤◌, ◌<◌, ◌^◌}
use mathlib.Core.List.{List, [], ◌∷◌}
use Rattle.std.proofs.Math.Dec.{T, ltb→lt}
use Rattle.std.specs.Float.Ieee.Fits.{and_l, and_r}
use Rattle.std.proofs.lemmas.List.{length-replicate}
use borrow.Author.Tests.{ltb-true, ltb-false, le-leb, eq-eqb, ne_eqb}
use Rattle.lists.specs.Count.{count}
use Rattle.lists.specs.Once.{Stops}
use Rattle.lists.specs.Laws.Once.{Distinct, AllOff, count_append, split, stops_split, distinct_few}
use Rattle.wire.specs.Bytes.{le, bytes, write}
use Rattle.wire.specs.Laws.Bytes.{length_bytes, length_write, le_lt, le_in, le_before, le_after, le_past}
use Rattle.sheet.specs.Fields.{rows_of, vehicles_of, vehicle_at, id_field, most_rows, plan_length}
use Rattle.sheet.specs.Accepted.{Accepted}
use Rattle.sheet.specs.Values.{vehicle_of}
use Rattle.sheet.specs.declared.vehicle.Vehicle.{Vehicle}
use Rattle.sheet.specs.Fleet.{index_from, index_of}
use Rattle.evaluation.specs.Limits.{limits_at}
use Rattle.evaluation.specs.declared.limits.RouteLimits.{RouteLimits}
use Rattle.evaluator.specs.Record.{placed_of, begin_of, build_route}
use Rattle.constructive.specs.Outcome.{Round, Outcome, chains, stops_of, round_at}
use Rattle.constructive.specs.Right.{ids_known, links_right, each_once, outcome_right}
use Rattle.constructive.specs.Laws.Right.{stops_right, distinct_right}
use Rattle.plan.specs.Plan.{first_of, round_record_at, row_record_at, round_counts, round_figures, round_bytes, header_bytes, with_visits, with_round, with_rounds, with_aside, blank, plan_bytes}
use Rattle.plan.specs.Stated.{record_bytes}
use Rattle.plan.specs.Laws.Plan.{round_long, counts_long, header_long}
use Rattle.plan.specs.Read.{rounds_at, aside_at, id_at, first_stop_at, next_at, chain_of, rounds_from, read_plan, plan_right}
use Rattle.plan.specs.Laws.Chained.{Linked, Spread, first_lt, le_front, starts, visits_spread, aside_spread, clear_low, clear_next, spread_length, spread_keeps, spread_links, chain_back}

linked_kept : (P Q : List ℕ) (n : ℕ) (ys : List ℕ) → ((r : ℕ) → count r ys ≡ 0 → next_at P n r ≡ next_at Q n r) → (rows : List ℕ) → AllOff rows ys → Linked Q n rows → Linked P n rows
unfolding AllOff
linked_kept P Q n ys f [] a l = tt
linked_kept P Q n ys f (row ∷ rows) a l = (f row a.0 ∙ l.0, linked_kept P Q n ys f rows a.1 l.1)

-- ---- an id is found at its vehicle
index_back : (s : List ℕ) → Accepted s → (v m w : ℕ) → v < vehicles_of s → w + m ≡ vehicles_of s → w ≤ v → index_from s (id_field s (vehicle_at s v)) m w ≡ v
unfolding index_from
index_back s a v zero w h e l = absurd (omega arith)
index_back s a v (suc m) w h e l = go (ltb w v) refl (λ k. index_back s a v m (w + 1) h (omega arith) k)
  where
    go : (b : Bool) → ltb w v ≡ b → (w + 1 ≤ v → index_from s (id_field s (vehicle_at s v)) m (w + 1) ≡ v) → cond (eqb (id_field s (vehicle_at s w)) (id_field s (vehicle_at s v))) w (index_from s (id_field s (vehicle_at s v)) m (w + 1)) ≡ v
    go true t f =
        let k = ltb-true w v t in
        rw (ne_eqb (id_field s (vehicle_at s w)) (id_field s (vehicle_at s v)) (a.ids v w h k)) (f (omega arith))
    go false t f =
        let k = ltb-false w v t in
        let q : w ≡ v = omega arith in
        rw (q, eq-eqb (id_field s (vehicle_at s v)) (id_field s (vehicle_at s v)) refl)

-- ---- one round
module _ (s : List ℕ) (most : rows_of s ≤ most_rows) where
  module _ (k : ℕ) (v : Vehicle) (limits : RouteLimits) (stops plan : List ℕ) (few : k < rows_of s) (long : length plan ≡ 16 + 80 * rows_of s) (o : Stops (rows_of s) stops) where
    abbrev visited : List ℕ
    visited = with_visits s (placed_of s v.depot limits stops) (begin_of v.depot) stops plan

    abbrev figures : List ℕ
    figures = round_bytes v.id (first_of stops) (build_route s v.depot limits stops)

    spread : Spread (rows_of s) stops plan visited
    spread = visits_spread s (placed_of s v.depot limits stops) (begin_of v.depot) stops plan most o

    length_visited : length visited ≡ 16 + 80 * rows_of s
    length_visited = spread_length (rows_of s) long spread

    long_figures : length figures ≡ 56
    long_figures = round_long v.id (first_of stops) (build_route s v.depot limits stops)

    room : round_record_at k + length figures ≤ length visited
    room = let l = length_visited in let m = long_figures in omega arith

    round_length : length (with_round s k v limits stops plan) ≡ 16 + 80 * rows_of s
    unfolding with_round
    round_length = length_write visited (round_record_at k) figures room ∙ length_visited

    round_low : (m i : ℕ) → i + m ≤ 16 + 56 * k → le m (with_round s k v limits stops plan) i ≡ le m plan i
    unfolding with_round
    round_low m i h = le_before visited (round_record_at k) figures room m i h ∙ spread_keeps (rows_of s) m i long spread (clear_low (rows_of s) m i stops (omega arith))

    round_visits : (r : ℕ) → next_at (with_round s k v limits stops plan) (rows_of s) r ≡ next_at visited (rows_of s) r
    unfolding with_round next_at
    round_visits r = let l = long_figures in le_after visited (round_record_at k) figures room 2 (row_record_at (rows_of s) r) (omega arith)

    round_next : (r : ℕ) → count r stops ≡ 0 → next_at (with_round s k v limits stops plan) (rows_of s) r ≡ next_at plan (rows_of s) r
    unfolding next_at
    round_next r h = round_visits r ∙ spread_keeps (rows_of s) 2 (row_record_at (rows_of s) r) long spread (clear_next (rows_of s) r stops h)

    round_field : (m i : ℕ) → i + m ≤ 16 → le m (with_round s k v limits stops plan) (round_record_at k + i) ≡ le m (round_counts v.id (first_of stops) (build_route s v.depot limits stops)) i
    unfolding with_round round_bytes
    round_field m i h =
        let r = build_route s v.depot limits stops in
        let c = counts_long v.id (first_of stops) r in
        let l = long_figures in
        le_in visited (round_record_at k) figures room m i (omega arith) ∙ le_front m i (round_counts v.id (first_of stops) r) (round_figures r) (omega arith)

    round_id : v.id < 256 ^ 4 → id_at (with_round s k v limits stops plan) k ≡ v.id
    unfolding id_at round_counts
    round_id h = ap (le 4 (with_round s k v limits stops plan)) (sym (add-zero (round_record_at k))) ∙ round_field 4 0 (omega arith) ∙ starts 4 v.id _ h

    round_first : first_stop_at (with_round s k v limits stops plan) k ≡ first_of stops
    unfolding first_stop_at round_counts
    round_first =
        round_field 2 8 (omega arith)
        ∙ le_past 2 4 4 (bytes 4 v.id) _ (length_bytes 4 v.id)
        ∙ le_past 2 0 4 (bytes 4 (build_route s v.depot limits stops).load) _ (length_bytes 4 (build_route s v.depot limits stops).load)
        ∙ starts 2 (first_of stops) _ (first_lt (rows_of s) stops most o)

    round_links : Distinct stops → Linked visited (rows_of s) stops
    round_links d = spread_links (rows_of s) long d spread

  -- ---- the rounds; `off` are the stops chained after them
  rounds_length : (rs : List Round) (off : List ℕ) (k : ℕ) (plan : List ℕ) → k + length rs ≤ rows_of s → length plan ≡ 16 + 80 * rows_of s → Stops (rows_of s) (chains rs off) → length (with_rounds s k rs plan) ≡ 16 + 80 * rows_of s
  unfolding with_rounds chains
  rounds_length [] off k plan f l o = l
  rounds_length (r ∷ rs) off k plan f l o =
      let p = stops_split (rows_of s) r.stops (chains rs off) o in
      rounds_length rs off (k + 1) (with_round s k (vehicle_of s r.vehicle) (limits_at s r.vehicle) r.stops plan) (omega arith) (round_length k (vehicle_of s r.vehicle) (limits_at s r.vehicle) r.stops plan (omega arith) l p.0) p.1

  rounds_low : (rs : List Round) (off : List ℕ) (k : ℕ) (plan : List ℕ) → k + length rs ≤ rows_of s → length plan ≡ 16 + 80 * rows_of s → Stops (rows_of s) (chains rs off) → (m i : ℕ) → i + m ≤ 16 + 56 * k → le m (with_rounds s k rs plan) i ≡ le m plan i
  unfolding with_rounds chains
  rounds_low [] off k plan f l o m i h = refl
  rounds_low (r ∷ rs) off k plan f l o m i h =
      let v = vehicle_of s r.vehicle in
      let p = stops_split (rows_of s) r.stops (chains rs off) o in
      let q = round_length k v (limits_at s r.vehicle) r.stops plan (omega arith) l p.0 in
      rounds_low rs off (k + 1) (with_round s k v (limits_at s r.vehicle) r.stops plan) (omega arith) q p.1 m i (omega arith) ∙ round_low k v (limits_at s r.vehicle) r.stops plan (omega arith) l p.0 m i h

  rounds_next : (rs : List Round) (off : List ℕ) (k : ℕ) (plan : List ℕ) → k + length rs ≤ rows_of s → length plan ≡ 16 + 80 * rows_of s → Stops (rows_of s) (chains rs off) → (r : ℕ) → count r (chains rs off) ≡ 0 → next_at (with_rounds s k rs plan) (rows_of s) r ≡ next_at plan (rows_of s) r
  unfolding with_rounds chains
  rounds_next [] off k plan f l o x h = refl
  rounds_next (r ∷ rs) off k plan f l o x h =
      let v = vehicle_of s r.vehicle in
      let p = stops_split (rows_of s) r.stops (chains rs off) o in
      let q = round_length k v (limits_at s r.vehicle) r.stops plan (omega arith) l p.0 in
      let e = count_append x r.stops (chains rs off) in
      rounds_next rs off (k + 1) (with_round s k v (limits_at s r.vehicle) r.stops plan) (omega arith) q p.1 x (omega arith) ∙ round_next k v (limits_at s r.vehicle) r.stops plan (omega arith) l p.0 x (omega arith)

  -- the bytes of a round's record
  rounds_at_lem : (rs : List Round) (off : List ℕ) (k : ℕ) (plan : List ℕ) → k + length rs ≤ rows_of s → length plan ≡ 16 + 80 * rows_of s → Stops (rows_of s) (chains rs off) → (n : ℕ) → n < length rs → (m i : ℕ) → i + m ≤ 56
      → le m (with_rounds s k rs plan) (round_record_at (k + n) + i) ≡ le m (record_bytes s (round_at rs n)) i
  unfolding with_rounds chains with_round
  rounds_at_lem [] off k plan f l o n h m i j = absurd (omega arith)
  rounds_at_lem (r ∷ rs) off k plan f l o zero h m i j =
      let v = vehicle_of s r.vehicle in
      let p = stops_split (rows_of s) r.stops (chains rs off) o in
      let q = round_length k v (limits_at s r.vehicle) r.stops plan (omega arith) l p.0 in
      let c = long_figures k v (limits_at s r.vehicle) r.stops plan (omega arith) l p.0 in
      ap (λ (x : ℕ). le m (with_rounds s (k + 1) rs (with_round s k v (limits_at s r.vehicle) r.stops plan)) (round_record_at x + i)) (add-zero k)
      ∙ rounds_low rs off (k + 1) (with_round s k v (limits_at s r.vehicle) r.stops plan) (omega arith) q p.1 m (round_record_at k + i) (omega arith)
      ∙ le_in (visited k v (limits_at s r.vehicle) r.stops plan (omega arith) l p.0) (round_record_at k) _ (room k v (limits_at s r.vehicle) r.stops plan (omega arith) l p.0) m i (omega arith)
  rounds_at_lem (r ∷ rs) off k plan f l o (suc n) h m i j =
      let v = vehicle_of s r.vehicle in
      let p = stops_split (rows_of s) r.stops (chains rs off) o in
      let q = with_round s k v (limits_at s r.vehicle) r.stops plan in
      ap (λ (x : ℕ). le m (with_rounds s (k + 1) rs q) (round_record_at x + i)) (omega arith)
      ∙ rounds_at_lem rs off (k + 1) q (omega arith) (round_length k v (limits_at s r.vehicle) r.stops plan (omega arith) l p.0) p.1 n (omega arith) m i j

  -- what a plan says of rounds
  Reads : List ℕ → ℕ → List Round → Type 0
  Reads plan k [] = Unit
  Reads plan k (r ∷ rs) = ((id_at plan k ≡ (vehicle_of s r.vehicle).id) × ((first_stop_at plan k ≡ first_of r.stops) × Linked plan (rows_of s) r.stops)) × Reads plan (k + 1) rs

  off_count : (rs : List Round) (off : List ℕ) (x : ℕ) → count x (chains rs off) ≡ 0 → count x off ≡ 0
  unfolding chains
  off_count [] off x h = h
  off_count (r ∷ rs) off x h = let e = count_append x r.stops (chains rs off) in off_count rs off x (omega arith)

  module _ (small : (i : ℕ) → get_or s i 0 < 256) (P off : List ℕ) where
    id_lt : (v : ℕ) → (vehicle_of s v).id < 256 ^ 4
    unfolding vehicle_of id_field
    id_lt v = le_lt 4 s (vehicle_at s v) small

    rounds_read : (rs : List Round) (k : ℕ) (plan : List ℕ) → k + length rs ≤ rows_of s → length plan ≡ 16 + 80 * rows_of s → Stops (rows_of s) (chains rs off) → Distinct (chains rs off)
        → ((m i : ℕ) → 16 ≤ i → i + m ≤ 16 + 56 * rows_of s → le m P i ≡ le m (with_rounds s k rs plan) i)
        → ((r : ℕ) → count r off ≡ 0 → next_at P (rows_of s) r ≡ next_at (with_rounds s k rs plan) (rows_of s) r)
        → Reads P k rs
    unfolding Reads with_rounds chains id_at first_stop_at
    rounds_read [] k plan f l o d low next = tt
    rounds_read (r ∷ rs) k plan f l o d low next =
        let v = vehicle_of s r.vehicle in
        let p = stops_split (rows_of s) r.stops (chains rs off) o in
        let e = split r.stops (chains rs off) d in
        let q = with_round s k v (limits_at s r.vehicle) r.stops plan in
        let n = round_length k v (limits_at s r.vehicle) r.stops plan (omega arith) l p.0 in (
          (
            low 4 (round_record_at k) (omega arith) (omega arith) ∙ rounds_low rs off (k + 1) q (omega arith) n p.1 4 (round_record_at k) (omega arith) ∙ round_id k v (limits_at s r.vehicle) r.stops plan (omega arith) l p.0 (id_lt r.vehicle),
            (
              low 2 (round_record_at k + 8) (omega arith) (omega arith) ∙ rounds_low rs off (k + 1) q (omega arith) n p.1 2 (round_record_at k + 8) (omega arith) ∙ round_first k v (limits_at s r.vehicle) r.stops plan (omega arith) l p.0,
              linked_kept P (visited k v (limits_at s r.vehicle) r.stops plan (omega arith) l p.0) (rows_of s) (chains rs off)
                  (λ x h. next x (off_count rs off x h) ∙ rounds_next rs off (k + 1) q (omega arith) n p.1 x h ∙ round_visits k v (limits_at s r.vehicle) r.stops plan (omega arith) l p.0 x)
                  r.stops e.1.1 (round_links k v (limits_at s r.vehicle) r.stops plan (omega arith) l p.0 e.0),
            ),
          ),
          rounds_read rs (k + 1) q (omega arith) n p.1 e.1.0 low next,
        )

  -- ---- and back
  module _ (a : Accepted s) (P : List ℕ) where
    stops_back : (rows : List ℕ) → Linked P (rows_of s) rows → Stops (rows_of s) rows → Distinct rows → chain_of s P (first_of rows) ≡ rows
    stops_back rows l o d = chain_back P (rows_of s) (rows_of s) rows l o (distinct_few (rows_of s) rows o d)

    index_of_lem : (v : ℕ) → v < vehicles_of s → index_of s (vehicle_of s v).id ≡ v
    unfolding vehicle_of
    index_of_lem v h = index_back s a v (vehicles_of s) 0 h (omega arith) (omega arith)

    rounds_back : (off : List ℕ) (rs : List Round) (k : ℕ) → Reads P k rs → T (ids_known s rs) → Stops (rows_of s) (chains rs off) → Distinct (chains rs off) → rounds_from s P (length rs) k ≡ rs
    unfolding Reads rounds_from chains ids_known
    rounds_back off [] k r t o d = refl
    rounds_back off (r ∷ rs) k x t o d =
        let p = stops_split (rows_of s) r.stops (chains rs off) o in
        let e = split r.stops (chains rs off) d in
        let h = ltb→lt r.vehicle (vehicles_of s) (and_l (ltb r.vehicle (vehicles_of s)) (ids_known s rs) t) in
        rw (x.0.0, index_of_lem r.vehicle h, x.0.1.0, stops_back r.stops x.0.1.1 p.0 e.0, rounds_back off rs (k + 1) x.1 (and_r (ltb r.vehicle (vehicles_of s)) (ids_known s rs) t) p.1 e.1.0)

-- ---- the chain after the rounds
pub aside_stops : (n : ℕ) (rs : List Round) (off : List ℕ) → Stops n (chains rs off) → Stops n off
unfolding chains
aside_stops n [] off o = o
aside_stops n (r ∷ rs) off o = aside_stops n rs off (stops_split n r.stops (chains rs off) o).1

aside_distinct : (rs : List Round) (off : List ℕ) → Distinct (chains rs off) → Distinct off
unfolding chains
aside_distinct [] off d = d
aside_distinct (r ∷ rs) off d = aside_distinct rs off (split r.stops (chains rs off) d).1.0

off_none : (rows : List ℕ) → AllOff rows []
unfolding AllOff count
off_none [] = tt
off_none (row ∷ rows) = (refl, off_none rows)

-- ---- the plan
module _ (s : List ℕ) (o : Outcome) (cost : Float) (a : Accepted s) (small : (i : ℕ) → get_or s i 0 < 256) (few : length o.rounds ≤ rows_of s) (right : T (outcome_right s o)) where
  most : rows_of s ≤ most_rows
  most = a.sized.rows

  known : T (ids_known s o.rounds)
  unfolding outcome_right
  known = and_l (ids_known s o.rounds) (links_right s (stops_of o) && each_once s (stops_of o)) right

  links : T (links_right s (stops_of o))
  unfolding outcome_right
  links = and_l (links_right s (stops_of o)) (each_once s (stops_of o)) (and_r (ids_known s o.rounds) (links_right s (stops_of o) && each_once s (stops_of o)) right)

  pub stops : Stops (rows_of s) (stops_of o)
  stops = stops_right s (stops_of o) links

  distinct : Distinct (stops_of o)
  unfolding outcome_right
  distinct = distinct_right s (stops_of o) links (and_r (links_right s (stops_of o)) (each_once s (stops_of o)) (and_r (ids_known s o.rounds) (links_right s (stops_of o) && each_once s (stops_of o)) right))

  abbrev rounded : List ℕ
  rounded = with_rounds s 0 o.rounds (blank s)

  abbrev chained : List ℕ
  chained = with_aside s o.aside rounded

  abbrev header : List ℕ
  header = header_bytes (length o.rounds) (first_of o.aside) (rows_of s) cost

  abbrev plan : List ℕ
  plan = write chained 0 header

  long_blank : length (blank s) ≡ 16 + 80 * rows_of s
  long_blank = length-replicate (16 + 80 * rows_of s) 0

  long_rounded : length rounded ≡ 16 + 80 * rows_of s
  long_rounded = rounds_length s most o.rounds o.aside 0 (blank s) (omega arith) long_blank stops

  spread_aside : Spread (rows_of s) o.aside rounded chained
  spread_aside = aside_spread s o.aside rounded most (aside_stops (rows_of s) o.rounds o.aside stops)

  long_header : length header ≡ 16
  long_header = header_long (length o.rounds) (first_of o.aside) (rows_of s) cost

  header_room : 0 + length header ≤ length chained
  header_room = let l = spread_length (rows_of s) long_rounded spread_aside in let h = long_header in omega arith

  after_header : (m i : ℕ) → 16 ≤ i → le m plan i ≡ le m chained i
  after_header m i h = let l = long_header in le_after chained 0 header header_room m i (omega arith)

  low : (m i : ℕ) → 16 ≤ i → i + m ≤ 16 + 56 * rows_of s → le m plan i ≡ le m rounded i
  low m i h l = after_header m i h ∙ spread_keeps (rows_of s) m i long_rounded spread_aside (clear_low (rows_of s) m i o.aside l)

  next : (r : ℕ) → next_at plan (rows_of s) r ≡ next_at chained (rows_of s) r
  unfolding next_at
  next r = after_header 2 (row_record_at (rows_of s) r) (omega arith)

  next_off : (r : ℕ) → count r o.aside ≡ 0 → next_at plan (rows_of s) r ≡ next_at rounded (rows_of s) r
  unfolding next_at
  next_off r h = next r ∙ spread_keeps (rows_of s) 2 (row_record_at (rows_of s) r) long_rounded spread_aside (clear_next (rows_of s) r o.aside h)

  rounds_count : rounds_at plan ≡ length o.rounds
  unfolding rounds_at header_bytes
  rounds_count = let l = long_header in le_in chained 0 header header_room 2 0 (omega arith) ∙ starts 2 (length o.rounds) _ (let k = most in omega arith)

  aside_first : aside_at plan ≡ first_of o.aside
  unfolding aside_at header_bytes
  aside_first =
      let l = long_header in
      le_in chained 0 header header_room 2 2 (omega arith)
      ∙ le_past 2 0 2 (bytes 2 (length o.rounds)) _ (length_bytes 2 (length o.rounds))
      ∙ starts 2 (first_of o.aside) _ (first_lt (rows_of s) o.aside most (aside_stops (rows_of s) o.rounds o.aside stops))

  aside_back : chain_of s plan (first_of o.aside) ≡ o.aside
  aside_back =
      let d = aside_distinct o.rounds o.aside distinct in
      stops_back s most a plan o.aside
      (linked_kept plan chained (rows_of s) [] (λ r h. next r) o.aside (off_none o.aside) (spread_links (rows_of s) long_rounded d spread_aside))
      (aside_stops (rows_of s) o.rounds o.aside stops)
      d

  all_back : rounds_from s plan (length o.rounds) 0 ≡ o.rounds
  all_back =
      rounds_back s most a plan o.aside o.rounds 0
      (rounds_read s most small plan o.aside o.rounds 0 (blank s) (omega arith) long_blank stops distinct low next_off)
      known
      stops
      distinct

  pub written_long : length (plan_bytes s o cost) ≡ plan_length s
  unfolding plan_bytes
  written_long = length_write chained 0 header header_room ∙ spread_length (rows_of s) long_rounded spread_aside

  -- the stops set aside are rows
  pub aside_rows : Stops (rows_of s) o.aside
  aside_rows = aside_stops (rows_of s) o.rounds o.aside stops

  -- reading what was written gives the outcome back
  pub read_written : read_plan s (plan_bytes s o cost) ≡ o
  unfolding read_plan plan_bytes
  read_written = rw (rounds_count, all_back, aside_first, aside_back)

  -- and nothing is told of it: "every pond stands once"
  pub written_right : T (plan_right s (plan_bytes s o cost))
  unfolding plan_right plan_bytes
  written_right = rw (rounds_count, le-leb (length o.rounds) (rows_of s) few) (subst (λ (x : Outcome). T (outcome_right s x)) (sym read_written) right)

  -- the record of a round, counted from 0, stands where it is written
  pub record_written : (n : ℕ) → n < length o.rounds → (m i : ℕ) → i + m ≤ 56 → le m (plan_bytes s o cost) (round_record_at n + i) ≡ le m (record_bytes s (round_at o.rounds n)) i
  unfolding plan_bytes
  record_written n h m i j =
      low m (round_record_at n + i) (omega arith) (omega arith)
      ∙ ap (λ (x : ℕ). le m rounded (round_record_at x + i)) (sym (zero-add n))
      ∙ rounds_at_lem s most o.rounds o.aside 0 (blank s) (omega arith) long_blank stops n h m i j
