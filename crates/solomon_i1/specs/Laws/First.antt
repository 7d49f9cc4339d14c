-- The seed's rule takes none of the other stops left before the seed. Assumes nothing.
use Rattle.std.specs.Prelude.{◌≡◌, refl, Bool, false, not, ◌&&◌, cond, T, ltb, eqb, take, drop, Float}
use Rattle.std.proofs.Math.Path.{sym, ap, subst}
use Rattle.std.proofs.Common.{◌∙◌, zero-lt-suc, zero-add, add-zero, zero-mul, le_of_suc-le-suc, not-suc-le-zero, length-drop, length-take-le, get_or-take, get_or-drop, ltb-true, eqb-true, le-ltb, ne_eqb}
use Prim.Native.Nat.{ℕ, zero, suc, ◌+◌, ◌*◌, ◌^◌, ◌<◌, suc-le-suc, zero-le}
use native.Mathlib.Omega.{arith}
use Rattle.std.proofs.Math.Bool.{true, true≢false}
use mathlib.Core.List.{List, [], ◌∷◌}
use Rattle.std.proofs.Math.ListN.{length, get_or}
use Rattle.std.specs.Float.{nan, inf, fin}
use Rattle.std.specs.Float.Ieee.{lt, eq, up, down, is_nan, of_bits, of_fields, odd}
use Rattle.std.proofs.lemmas.Bool.{eqb-false, true_from_ne_false, or_from, and_right}
use Rattle.lists.specs.Every.{Every}
use Rattle.lists.specs.Laws.Every.{every_of, every_at, every_append}
use Rattle.lists.specs.Moved.{without}
use Rattle.lists.specs.Ascending.{Ascending}
use Rattle.numbers.specs.Laws.Upto.{Upto, no_nan}
use Rattle.numbers.specs.Laws.Range.{zero_upto}
use Rattle.sorting.specs.Laws.Descending.{lt_asym, lt_through}
use Rattle.sorting.specs.Laws.Least.{same_not_less}
use Rattle.sheet.specs.Values.{nought, distance_of}
use Rattle.solomon_i1.specs.Insertion.{Farthest, farther, farthest_from, unseen, seed_of}
use Rattle.solomon_i1.specs.Laws.Planned.{seed_place}
use Rattle.solomon_i1.specs.Later.{seeds_first}

-- ---- floats
less_not_same : (n m : ℕ) (x y : Float) → Upto n x → Upto m y → lt x y ≡ true → eq y x ≡ false
unfolding lt eq
less_not_same n m nan y u v e = absurd u
less_not_same n m (inf s) y u v e = absurd u
less_not_same n m (fin true a d) y u v e = absurd u
less_not_same n m (fin false a d) nan u v e = absurd v
less_not_same n m (fin false a d) (inf t) u v e = absurd v
less_not_same n m (fin false a d) (fin true b f) u v e = absurd v
less_not_same n m (fin false a d) (fin false b f) u v e =
    let p = a * up d * down f in
    let q = b * up f * down d in
    let l = ltb-true p q e in
    rw (ne_eqb q p (λ same. omega (arith, l, same)))

not_below_nought : (n : ℕ) (x : Float) → Upto n x → lt x nought ≡ false
unfolding lt of_bits of_fields odd
not_below_nought n nan u = absurd u
not_below_nought n (inf s) u = absurd u
not_below_nought n (fin true m e) u = absurd u
not_below_nought n (fin false m e) u = le-ltb (m * up e * 1) (0 * down e) (rw (zero-mul (down e)) zero-le)

-- ---- the legs from the depot
abbrev pub Leg : List ℕ → ℕ → ℕ → Type 0
Leg s depot row = Upto (10 ^ 9) (distance_of s depot row)

abbrev leg_at : List ℕ → ℕ → List ℕ → ℕ → Float
leg_at s depot left i = distance_of s depot (get_or left i 0)

-- of the first n stops left none is farther, each before it is nearer, and it is no nearer than its distance
record Far (s : List ℕ) (depot : ℕ) (left : List ℕ) (n : ℕ) (f : Farthest) : Type 0 where
  number : T (not (is_nan f.distance))
  none : (i : ℕ) → i < n → lt f.distance (leg_at s depot left i) ≡ false
  first : (i : ℕ) → i < f.place → lt (leg_at s depot left i) f.distance ≡ true
  own : lt (leg_at s depot left f.place) f.distance ≡ false

module _ (s : List ℕ) (depot : ℕ) (left : List ℕ) (legs : Every (Leg s depot) left) where
  leg_upto : (i : ℕ) → i < length left → Upto (10 ^ 9) (leg_at s depot left i)
  leg_upto i h = every_at (Leg s depot) 0 left i h legs

  leg_number : (i : ℕ) → i < length left → T (not (is_nan (leg_at s depot left i)))
  leg_number i h = no_nan (10 ^ 9) (leg_at s depot left i) (leg_upto i h)

  far_start : 0 < length left → Far s depot left 0 unseen
  far_start h = record {
    number = no_nan 0 nought (zero_upto 0);
    none = λ i l. absurd (omega (arith, l));
    first = λ i l. absurd (omega (arith, l));
    own = not_below_nought (10 ^ 9) (leg_at s depot left 0) (leg_upto 0 h);
  }

  -- one more stop, at place n
  far_more : (n : ℕ) → n < length left → (f : Farthest) → Far s depot left n f → Far s depot left (n + 1) (farther s depot f n (get_or left n 0))
  far_more n h f r = go (lt f.distance (leg_at s depot left n)) refl
    where
      at : (P : ℕ → Type 0) (i : ℕ) → i < n + 1 → ((i : ℕ) → i < n → P i) → P n → P i
      at P i l g p = pick (eqb i n) refl
        where
          pick : (b : Bool) → eqb i n ≡ b → P i
          pick true e = subst P (sym (eqb-true i n e)) p
          pick false e = let d = eqb-false i n e in g i (omega (arith, l, d))

      go : (b : Bool) → lt f.distance (leg_at s depot left n) ≡ b → Far s depot left (n + 1) (cond b (record { place = n; distance = leg_at s depot left n }) f)
      go false e = record {
        number = r.number;
        none = λ i l. at (λ (i : ℕ). lt f.distance (leg_at s depot left i) ≡ false) i l r.none e;
        first = r.first;
        own = r.own;
      }
      go true e = record {
        number = leg_number n h;
        none = λ i l. at (λ (i : ℕ). lt (leg_at s depot left n) (leg_at s depot left i) ≡ false) i l
            (λ i k. lt_through (leg_at s depot left n) f.distance (leg_at s depot left i) r.number (lt_asym f.distance (leg_at s depot left n) e) (r.none i k))
            (same_not_less (leg_at s depot left n));
        first = λ i l. true_from_ne_false (lt (leg_at s depot left i) (leg_at s depot left n))
            (λ k. true≢false (sym e ∙ lt_through f.distance (leg_at s depot left i) (leg_at s depot left n) (leg_number i (omega (arith, l, h))) (r.none i l) k));
        own = same_not_less (leg_at s depot left n);
      }

  far_from : (rows : List ℕ) (n : ℕ) (f : Farthest) → n + length rows ≡ length left → ((k : ℕ) → k < length rows → get_or rows k 0 ≡ get_or left (n + k) 0) → Far s depot left n f
      → Far s depot left (length left) (farthest_from s depot f n rows)
  unfolding farthest_from
  far_from [] n f h e r = let all : n ≡ length left = omega (arith, h) in subst (λ (m : ℕ). Far s depot left m f) all r
  far_from (row ∷ rows) n f h e r =
      let here : get_or left n 0 ≡ row = sym (e 0 (zero-lt-suc (length rows)) ∙ ap (λ (m : ℕ). get_or left m 0) (add-zero n)) in
      far_from rows (n + 1) (farther s depot f n row) (omega (arith, h))
      (λ k l. e (suc k) (suc-le-suc l) ∙ ap (λ (m : ℕ). get_or left m 0) (let m : n + suc k ≡ n + 1 + k = omega arith in m))
      (subst (λ (i : ℕ). Far s depot left (n + 1) (farther s depot f n i)) here (far_more n (omega (arith, h)) f r))

  farthest_far : 0 < length left → Far s depot left (length left) (farthest_from s depot unseen 0 left)
  farthest_far h = far_from left 0 unseen (omega arith) (λ k l. ap (λ (m : ℕ). get_or left m 0) (sym (zero-add k))) (far_start h)

-- ---- the other stops
ascending_at : (left : List ℕ) → Ascending left → (i j : ℕ) → i < j → j < length left → get_or left i 0 < get_or left j 0
ascending_at [] a i j h l = absurd (not-suc-le-zero l)
ascending_at (row ∷ rows) a i zero h l = absurd (not-suc-le-zero h)
ascending_at (row ∷ rows) a zero (suc j) h l = every_at (λ (x : ℕ). row < x) 0 rows j (le_of_suc-le-suc l) a.0
ascending_at (row ∷ rows) a (suc i) (suc j) h l = ascending_at rows a.1 i j (le_of_suc-le-suc h) (le_of_suc-le-suc l)

module _ (s : List ℕ) (depot : ℕ) (left : List ℕ) (some : 0 < length left) (legs : Every (Leg s depot) left) (rising : Ascending left) where
  abbrev place : ℕ
  place = seed_of s depot left

  abbrev NotFirst : ℕ → Type 0
  NotFirst row = seeds_first s depot row (get_or left place 0) ≡ false

  earlier : (i : ℕ) → i < place → NotFirst (get_or left i 0)
  unfolding seeds_first
  earlier i h =
      let r = farthest_far s depot left legs some in
      let d = (farthest_from s depot unseen 0 left).distance in
      let p = seed_place s depot left some in
      let x = leg_at s depot left place in
      let y = leg_at s depot left i in
      let less : lt y x ≡ true = true_from_ne_false (lt y x) (λ e. true≢false (sym (r.first i h) ∙ lt_through y x d (leg_number s depot left legs place p) e r.own)) in
      or_from (lt x y) (eq x y && ltb (get_or left i 0) (get_or left place 0)) (lt_asym y x less)
      (rw (less_not_same (10 ^ 9) (10 ^ 9) y x (leg_upto s depot left legs i (omega (arith, h, p))) (leg_upto s depot left legs place p) less))

  behind : (i : ℕ) → place < i → i < length left → NotFirst (get_or left i 0)
  unfolding seeds_first
  behind i h l =
      let r = farthest_far s depot left legs some in
      let d = (farthest_from s depot unseen 0 left).distance in
      let x = leg_at s depot left place in
      let y = leg_at s depot left i in
      let k = ascending_at left rising place i h l in
      or_from (lt x y) (eq x y && ltb (get_or left i 0) (get_or left place 0)) (lt_through x d y r.number r.own (r.none i l))
      (and_right (eq x y) (ltb (get_or left i 0) (get_or left place 0)) (le-ltb (get_or left i 0) (get_or left place 0) (omega (arith, k))))

  -- the seed's rule takes none of them before it
  pub seed_first_lem : Every NotFirst (without place left)
  seed_first_lem =
      let p = seed_place s depot left some in
      every_append NotFirst (take place left) (drop (place + 1) left)
      (every_of NotFirst 0 (take place left)
      (λ k h.
      let l : k < place = let e = length-take-le place left (omega (arith, p)) in omega (arith, e, h) in
      subst NotFirst (sym (get_or-take place left k 0 l)) (earlier k l)))
      (every_of NotFirst 0 (drop (place + 1) left)
      (λ k h. let e = length-drop (place + 1) left in subst NotFirst (sym (get_or-drop (place + 1) left k 0)) (behind (place + 1 + k) (omega arith) (omega (arith, e, h)))))
