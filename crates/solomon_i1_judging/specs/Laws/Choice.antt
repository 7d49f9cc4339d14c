-- Which insertion is made next: "the first least insertion wins". Assumes nothing.
use Rattle.std.specs.Prelude.{◌≡◌, ◌⊎◌, Bool, true, false, not, cond, ltb, eqb, Float, Some, None}
use Rattle.std.proofs.Math.Path.{refl, sym, ap, subst}
use Rattle.std.proofs.Common.{◌∙◌, zero-lt-suc, zero-add, add-zero, inl, inr, eqb-true}
use Prim.Native.Nat.{ℕ, zero, suc, ◌+◌, ◌-◌, ◌*◌, ◌^◌, ◌≤◌, ◌<◌, suc-le-suc}
use native.Mathlib.Omega.{arith}
use mathlib.Core.List.{List, [], ◌∷◌}
use Rattle.std.proofs.Math.Dec.{T}
use Rattle.std.specs.Float.{nan, inf, fin, Format, binary64}
use Rattle.std.specs.Float.Ieee.{prec, emax, low, odd, units, round, neg, sum, add, sub, lt, is_nan, up, down}
use Rattle.std.proofs.Math.ListN.{length, get_or}
use Rattle.std.proofs.lemmas.Bool.{eqb-false}
use Rattle.sorting.specs.Laws.Least.{FirstLeast, least_stays, least_only, least_falls}
use Rattle.lists.specs.Every.{Every}
use Rattle.lists.specs.Laws.Every.{every_at}
use Rattle.numbers.specs.Laws.Upto.{Upto, exact, add_upto}
use Rattle.sheet.specs.Fields.{rows_of}
use Rattle.sheet.specs.Accepted.{Accepted}
use Rattle.sheet.specs.Values.{distance_of}
use Rattle.sheet.specs.Laws.Finite.{distance_bounded}
use Rattle.evaluation_clock.specs.Sums.{◌⊕◌, ◌⊖◌}
use Rattle.constructive.specs.declared.terms.Terms.{Terms}
use Rattle.insertion.specs.Choice.{Choice}
use Rattle.insertion.specs.Place.{row_before, row_after, detour, added_cost, Judged, unfit, costs, judged, place_fits, judge, better_place, try_places, carries}
use Rattle.solomon_i1_judging.specs.Choice.{try_stop, try_stops, best_of}

-- where a stop may go: the stop's place among those unrouted, and the place in the round
pub record Spot : Type 0 where
  pub stop : ℕ
  pub place : ℕ

abbrev pub spot : ℕ → ℕ → Spot
spot j k = record { stop = j; place = k }

-- stop by stop, and of one stop place by place
pub record Earlier (a b : Spot) : Type 0 where
  pub stop : a.stop ≤ b.stop
  pub place : a.stop ≡ b.stop → a.place < b.place

-- an insertion that may be made, and its cost
pub record Insertable (s : List ℕ) (t : Terms) (route left : List ℕ) (a : Spot) (x : Float) : Type 0 where
  pub stop : a.stop < length left
  pub place : a.place ≤ length route
  pub carried : T (carries s t route (get_or left a.stop 0))
  pub cost : judge s t route (get_or left a.stop 0) a.place ≡ costs x

-- there is none, or the choice is the first least of them
abbrev pub LeastInsertion : List ℕ → Terms → List ℕ → List ℕ → Choice → Type 0
LeastInsertion s t route left None = (a : Spot) (x : Float) → Insertable s t route left a x → ⊥
LeastInsertion s t route left (Some (j, k, x)) = FirstLeast Spot (Insertable s t route left) Earlier (spot j k) x

-- no cost is a NaN
abbrev pub CostsNumbers : List ℕ → Terms → List ℕ → List ℕ → Type 0
CostsNumbers s t route left = (a : Spot) (x : Float) → Insertable s t route left a x → T (not (is_nan x))

costs_not_unfit : (o : Judged) (x : Float) → o ≡ unfit → o ≡ costs x → ⊥
costs_not_unfit o x e f = let z : ◌≡◌ {A = ℕ} 0 1 = cc in omega arith

spot_is : (a : Spot) (j k : ℕ) → a.stop ≡ j → a.place ≡ k → a ≡ spot j k
spot_is a j k e f = ap (λ (i : ℕ). spot i a.place) e ∙ ap (spot j) f

not_earlier : (a : Spot) → Earlier a a → ⊥
not_earlier a e = omega (arith, e.place refl)

module _ (s : List ℕ) (t : Terms) (route left : List ℕ) (numbers : CostsNumbers s t route left) where
  -- what is seen before a spot
  record Seen (f a : Spot) (x : Float) : Type 0 where
    fit : Insertable s t route left a x
    earlier : Earlier a f

  abbrev Least : Spot → Choice → Type 0
  Least f None = (a : Spot) (x : Float) → Seen f a x → ⊥
  Least f (Some (j, k, x)) = FirstLeast Spot (Seen f) Earlier (spot j k) x

  -- spots that nothing insertable stands between
  onward : (f g : Spot) → ((a : Spot) (x : Float) → Seen f a x → Seen g a x) → ((a : Spot) (x : Float) → Seen g a x → Seen f a x) → (c : Choice) → Least f c → Least g c
  onward f g into from None none = λ a x k. none a x (from a x k)
  onward f g into from (Some (j, k, x)) r = record {
    admissible = into (spot j k) x r.admissible;
    least = λ a y m. r.least a y (from a y m);
    first = λ a y m l. r.first a y (from a y m) l;
  }

  -- ---- one place more, of a stop that is carried
  module _ (j : ℕ) (h : j < length left) (carried : T (carries s t route (get_or left j 0))) (k : ℕ) (l : k ≤ length route) where
    abbrev here : Judged
    here = judge s t route (get_or left j 0) k

    into : (a : Spot) (x : Float) → Seen (spot j k) a x → Seen (spot j (k + 1)) a x
    into a x m = record { fit = m.fit; earlier = record { stop = m.earlier.stop; place = λ e. let p = m.earlier.place e in omega arith } }

    parted : (a : Spot) (x : Float) → Seen (spot j (k + 1)) a x → Seen (spot j k) a x ⊎ ((a ≡ spot j k) × (here ≡ costs x))
    parted a x m = go (eqb a.stop j) refl (eqb a.place k) refl
      where
        go : (b : Bool) → eqb a.stop j ≡ b → (d : Bool) → eqb a.place k ≡ d → Seen (spot j k) a x ⊎ ((a ≡ spot j k) × (here ≡ costs x))
        go true p true q =
            let e = spot_is a j k (eqb-true a.stop j p) (eqb-true a.place k q) in
            inr (e, subst (λ (a : Spot). judge s t route (get_or left a.stop 0) a.place ≡ costs x) e m.fit.cost)
        go true p false q =
            let n = m.earlier.place (eqb-true a.stop j p) in
            let d = eqb-false a.place k q in
            inl (record { fit = m.fit; earlier = record { stop = m.earlier.stop; place = λ e. omega arith } })
        go false p d q =
            let n = eqb-false a.stop j p in
            inl (record { fit = m.fit; earlier = record { stop = m.earlier.stop; place = λ e. absurd (n e) } })

    late : (i n : ℕ) (x : Float) → Seen (spot j k) (spot i n) x → Earlier (spot j k) (spot i n) → ⊥
    late i n x m e = let p = m.earlier.stop in let q = e.stop in let u = m.earlier.place (let z : i ≡ j = omega arith in z) in let v = e.place (let z : j ≡ i = omega arith in z) in omega arith

    stays : (i n : ℕ) (x : Float) → FirstLeast Spot (Seen (spot j k)) Earlier (spot i n) x → ((y : Float) → here ≡ costs y → lt y x ≡ false) → FirstLeast Spot (Seen (spot j (k + 1))) Earlier (spot i n) x
    stays i n x r more =
        least_stays Spot (Seen (spot j k)) (Seen (spot j (k + 1))) Earlier (spot j k) (spot i n) x r (into (spot i n) x) (late i n x r.admissible)
        (λ a y m. go a y (parted a y m))
      where
        go : (a : Spot) (y : Float) → Seen (spot j k) a y ⊎ ((a ≡ spot j k) × (here ≡ costs y)) → Seen (spot j k) a y ⊎ ((a ≡ spot j k) × (lt y x ≡ false))
        go a y (inl m) = inl m
        go a y (inr e) = inr (e.0, more y e.1)

    module _ (z : Float) (e : here ≡ costs z) where
      itself : Seen (spot j (k + 1)) (spot j k) z
      itself = record { fit = record { stop = h; place = l; carried = carried; cost = e }; earlier = record { stop = omega arith; place = λ q. omega arith } }

      alike : (a : Spot) (y : Float) → Seen (spot j (k + 1)) a y → Seen (spot j k) a y ⊎ ((a ≡ spot j k) × (y ≡ z))
      alike a y m = go (parted a y m)
        where
          go : Seen (spot j k) a y ⊎ ((a ≡ spot j k) × (here ≡ costs y)) → Seen (spot j k) a y ⊎ ((a ≡ spot j k) × (y ≡ z))
          go (inl m) = inl m
          go (inr q) = let f = q.1 in inr (q.0, cc)

      least_better : (c : Choice) → Least (spot j k) c → Least (spot j (k + 1)) (better_place c j k (costs z))
      least_better None none = least_only Spot (Seen (spot j k)) (Seen (spot j (k + 1))) Earlier (spot j k) z itself (not_earlier (spot j k)) alike none
      least_better (Some (i, n, x)) r = go (lt z x) refl
        where
          go : (b : Bool) → lt z x ≡ b → Least (spot j (k + 1)) (cond b (Some (j, k, z)) (Some (i, n, x)))
          go true q = least_falls Spot (Seen (spot j k)) (Seen (spot j (k + 1))) Earlier (spot j k) z itself (not_earlier (spot j k)) alike (spot i n) x r (λ a y m. numbers a y m.fit) q
          go false q = stays i n x r (λ y f. let same : y ≡ z = cc in rw same q)

    -- however it is judged
    least_more : (o : Judged) → here ≡ o → (c : Choice) → Least (spot j k) c → Least (spot j (k + 1)) (better_place c j k o)
    least_more (costs z) e c r = least_better z e c r
    least_more unfit e None none = λ a x m. go a x (parted a x m)
      where
        go : (a : Spot) (x : Float) → Seen (spot j k) a x ⊎ ((a ≡ spot j k) × (here ≡ costs x)) → ⊥
        go a x (inl m) = none a x m
        go a x (inr q) = costs_not_unfit here x e q.1
    least_more unfit e (Some (i, n, x)) r = stays i n x r (λ y q. absurd (costs_not_unfit here y e q))

  -- ---- all places of a stop, and all stops
  least_places : (j : ℕ) → j < length left → T (carries s t route (get_or left j 0)) → (c : Choice) (n k : ℕ) → k + n ≡ suc (length route) → Least (spot j k) c
      → Least (spot j (suc (length route))) (try_places s t route j (get_or left j 0) c n k)
  unfolding try_places
  least_places j h u c zero k e r = let all : k ≡ suc (length route) = omega arith in subst (λ (m : ℕ). Least (spot j m) c) all r
  least_places j h u c (suc n) k e r =
      least_places j h u (better_place c j k (judge s t route (get_or left j 0) k)) n (k + 1) (omega arith) (least_more j h u k (omega arith) (judge s t route (get_or left j 0) k) refl c r)

  -- from a stop to the next
  past : (j k : ℕ) → (a : Spot) (x : Float) → Seen (spot j k) a x → Seen (spot (j + 1) 0) a x
  past j k a x m = let p = m.earlier.stop in record { fit = m.fit; earlier = record { stop = omega arith; place = λ e. absurd (omega arith) } }

  least_stop : (j : ℕ) → j < length left → (c : Choice) → Least (spot j 0) c → Least (spot (j + 1) 0) (try_stop s t route c j (get_or left j 0))
  least_stop j h c r = go (carries s t route (get_or left j 0)) refl
    where
      behind : (a : Spot) → Earlier a (spot (j + 1) 0) → a.stop ≤ j
      behind a e = pick (eqb a.stop (j + 1)) refl
        where
          pick : (b : Bool) → eqb a.stop (j + 1) ≡ b → a.stop ≤ j
          pick true q = absurd (omega (arith, e.place (eqb-true a.stop (j + 1) q)))
          pick false q = let d = eqb-false a.stop (j + 1) q in let p = e.stop in omega arith

      go : (b : Bool) → carries s t route (get_or left j 0) ≡ b → Least (spot (j + 1) 0) (cond b (try_places s t route j (get_or left j 0) c (suc (length route)) 0) c)
      go true e =
          onward (spot j (suc (length route))) (spot (j + 1) 0) (past j (suc (length route)))
          (λ a x m. record { fit = m.fit; earlier = record { stop = behind a m.earlier; place = λ q. let p = m.fit.place in omega arith } })
          (try_places s t route j (get_or left j 0) c (suc (length route)) 0) (least_places j h (rw e tt) c (suc (length route)) 0 (omega arith) r)
      go false e =
          onward (spot j 0) (spot (j + 1) 0) (past j 0)
          (λ a x m. record { fit = m.fit; earlier = record { stop = behind a m.earlier; place = λ q. absurd (subst T (ap (λ (i : ℕ). carries s t route (get_or left i 0)) q ∙ e) m.fit.carried) } })
          c r

  least_stops : (rows : List ℕ) (c : Choice) (j : ℕ) → j + length rows ≡ length left → ((k : ℕ) → k < length rows → get_or rows k 0 ≡ get_or left (j + k) 0) → Least (spot j 0) c
      → Least (spot (length left) 0) (try_stops s t route c j rows)
  unfolding try_stops
  least_stops [] c j h e r = let all : j ≡ length left = omega arith in subst (λ (m : ℕ). Least (spot m 0) c) all r
  least_stops (row ∷ rows) c j h e r =
      let here : get_or left j 0 ≡ row = sym (e 0 (zero-lt-suc (length rows)) ∙ ap (λ (m : ℕ). get_or left m 0) (add-zero j)) in
      least_stops rows (try_stop s t route c j row) (j + 1) (omega arith)
      (λ k l. e (suc k) (suc-le-suc l) ∙ ap (λ (m : ℕ). get_or left m 0) (let m : j + suc k ≡ j + 1 + k = omega arith in m))
      (subst (λ (i : ℕ). Least (spot (j + 1) 0) (try_stop s t route c j i)) here (least_stop j (omega arith) c r))

  -- every insertion was seen
  in_all : (c : Choice) → Least (spot (length left) 0) c → LeastInsertion s t route left c
  in_all None none = λ a x m. none a x (record { fit = m; earlier = record { stop = let p = m.stop in omega arith; place = λ e. absurd (let p = m.stop in omega arith) } })
  in_all (Some (j, k, x)) r = record {
    admissible = r.admissible.fit;
    least = λ a y m. r.least a y (record { fit = m; earlier = record { stop = let p = m.stop in omega arith; place = λ e. absurd (let p = m.stop in omega arith) } });
    first = λ a y m l. r.first a y (record { fit = m; earlier = record { stop = let p = m.stop in omega arith; place = λ e. absurd (let p = m.stop in omega arith) } }) l;
  }

  -- THE CHOICE of an insertion
  pub best_least : LeastInsertion s t route left (best_of s t route left)
  best_least =
      in_all (best_of s t route left)
      (least_stops left None 0 (omega arith) (λ k h. ap (λ (n : ℕ). get_or left n 0) (sym (zero-add k)))
      (λ a x m. let p = m.earlier.stop in omega (arith, m.earlier.place (let z : a.stop ≡ 0 = omega arith in z))))

-- ---- without soft windows no cost is a NaN: it is a sum of two distances of the sheet, less a third
odd_number : (d : ℕ) (s : Bool) (q k l : ℕ) → T (not (is_nan (odd d s q k l)))
unfolding odd is_nan
odd_number d s zero k l = tt
odd_number d s (suc q) k l = tt

units_number : (f : Format) (s : Bool) (q k : ℕ) → T (not (is_nan (units f s q k)))
unfolding units is_nan
units_number f s q k = go (ltb (q * 2 ^ k) (2 ^ (low f + suc (emax f))))
  where
    go : (b : Bool) → T (not (is_nan (cond b (odd (suc (prec f)) s q k (low f)) (inf s))))
    go true = odd_number (suc (prec f)) s q k (low f)
    go false = tt

round_number : (f : Format) (s : Bool) (a c : ℕ) → T (not (is_nan (round f s a c)))
unfolding round
round_number f s a c = units_number f s _ _

sub_number : (a b : ℕ) (x y : Float) → Upto a x → Upto b y → T (not (is_nan (x ⊖ y)))
unfolding sub add neg sum
sub_number a b nan y u v = absurd u
sub_number a b (inf s) y u v = absurd u
sub_number a b (fin true m e) y u v = absurd u
sub_number a b (fin false m e) nan u v = absurd v
sub_number a b (fin false m e) (inf t) u v = absurd v
sub_number a b (fin false m e) (fin true n d) u v = absurd v
sub_number a b (fin false m e) (fin false n d) u v = go (ltb (m * up e * down d) (n * up d * down e))
  where
    go : (t : Bool) → T (not (is_nan (cond t (round binary64 true (n * up d * down e - m * up e * down d) (down e * down d)) (round binary64 false (m * up e * down d - n * up d * down e) (down e * down d)))))
    go true = round_number binary64 true (n * up d * down e - m * up e * down d) (down e * down d)
    go false = round_number binary64 false (m * up e * down d - n * up d * down e) (down e * down d)

cost_is : (b : Bool) (cost x : Float) → judged b cost ≡ costs x → cost ≡ x
cost_is true cost x e = cc
cost_is false cost x e = absurd (costs_not_unfit unfit x refl e)

module _ (s : List ℕ) (t : Terms) (route left : List ℕ) (fine : Accepted s) (hard : t.soft ≡ false) (home : t.depot < rows_of s)
    (rows : Every (λ (i : ℕ). i < rows_of s) route) (unrouted : Every (λ (i : ℕ). i < rows_of s) left) where
  before_row : (k : ℕ) → k ≤ length route → row_before t.depot route k < rows_of s
  before_row zero h = home
  before_row (suc k) h = every_at (λ (i : ℕ). i < rows_of s) 0 route k h rows

  after_row : (k : ℕ) → k ≤ length route → row_after t.depot route k < rows_of s
  after_row k h = go (eqb k (length route)) refl
    where
      go : (b : Bool) → eqb k (length route) ≡ b → cond b t.depot (get_or route k 0) < rows_of s
      go true e = home
      go false e = let d = eqb-false k (length route) e in every_at (λ (i : ℕ). i < rows_of s) 0 route k (omega arith) rows

  detour_number : (row k : ℕ) → row < rows_of s → k ≤ length route → T (not (is_nan (detour s t.depot route row k)))
  detour_number row k r h =
      let p = row_before t.depot route k in
      let n = row_after t.depot route k in
      let P = before_row k h in
      let N = after_row k h in
      sub_number (2 * 10 ^ 9) (10 ^ 9) (distance_of s p row ⊕ distance_of s row n) (distance_of s p n)
      (add_upto (10 ^ 9) (10 ^ 9) (2 * 10 ^ 9) (distance_of s p row) (distance_of s row n) (distance_bounded s fine p row P r) (distance_bounded s fine row n r N) (omega arith) (exact (2 * 10 ^ 9) (omega arith)))
      (distance_bounded s fine p n P N)

  hard_costs : CostsNumbers s t route left
  unfolding judge
  hard_costs a x m =
      let row = get_or left a.stop 0 in
      subst (λ (y : Float). T (not (is_nan y))) (sym (rw hard) ∙ cost_is (place_fits s t route row a.place) (added_cost s t route row a.place) x m.cost)
      (detour_number row a.place (every_at (λ (i : ℕ). i < rows_of s) 0 left a.stop m.stop unrouted) m.place)

  pub hard_least : LeastInsertion s t route left (best_of s t route left)
  hard_least = best_least s t route left hard_costs
