-- A pick is a stop of those pending, a round, and a place of that round where the stop may stand; the round that is dropped is one of the rounds. Assumes nothing.
use Rattle.std.specs.Prelude.{◌≡◌, refl, Bool, not, ◌||◌, cond, Float, length, Some, None}
use Rattle.std.proofs.Common.{sym, ◌∙◌, subst, add-zero, zero-add, zero-lt-suc}
use Rattle.std.proofs.Math.Path.{ap}
use Prim.Native.Nat.{ℕ, zero, suc, ◌+◌, ◌≤◌, ◌<◌, suc-le-suc}
use native.Mathlib.Omega.{arith}
use Rattle.std.proofs.Math.Bool.{true, false}
use mathlib.Core.List.{List, [], ◌∷◌}
use Rattle.std.proofs.Math.Dec.{T}
use Rattle.std.specs.Float.Ieee.Fits.{and_i, and_l}
use Rattle.std.proofs.Math.ListN.{get_or}
use Rattle.lists.specs.Moved.{inserted}
use Rattle.constructive.specs.Outcome.{Round, round_at}
use Rattle.constructive.specs.Rounds.{passes}
use Rattle.insertion.specs.Lawful.{load_fits, lawful_place}
use Rattle.insertion.specs.Choice.{Choice}
use Rattle.insertion.specs.Place.{judged, wins, better_place}
use Rattle.fleet.specs.Pick.{Pick}
use Rattle.fleet.specs.Cheapest.{insertion_cost, judge_at, places_from, takes, in_round, insertion_from, cheapest_insertion, cheaper, pick_with, pick_from, pick_of}
use Rattle.fleet.specs.Limit.{lesser, Least, least_with, least_from, victim_of}

-- ---- one stop
-- before the k-th stop of the round counted i
pub record Place (s : List ℕ) (soft : Bool) (rounds : List Round) (row i k : ℕ) : Type 0 where
  pub round : i < length rounds
  pub place : k ≤ length (round_at rounds i).stops
  pub taken : T (takes s soft (round_at rounds i).vehicle (round_at rounds i).stops row)
  pub passed : T (passes s 0 (round_at rounds i).vehicle (inserted k row (round_at rounds i).stops))

-- a place that is taken is lawful
pub place_lawful : (s : List ℕ) (soft : Bool) (rounds : List Round) (row i k : ℕ) → Place s soft rounds row i k → T (lawful_place s 0 (round_at rounds i).vehicle (round_at rounds i).stops row k)
unfolding takes
place_lawful s soft rounds row i k p =
    let v = (round_at rounds i).vehicle in
    let stops = (round_at rounds i).stops in
    let within = load_fits s v stops row in
    and_i within (passes s 0 v (inserted k row stops)) (and_l within (not soft || passes s 0 v stops) p.taken) p.passed

abbrev pub Chosen : List ℕ → Bool → List Round → ℕ → Choice → Type 0
Chosen s soft rounds row None = Unit
Chosen s soft rounds row (Some (i, k, cost)) = Place s soft rounds row i k

module _ (s : List ℕ) (soft : Bool) (rounds : List Round) (row : ℕ) where
  better_chosen : (c : Choice) (i k : ℕ) (b : Bool) (cost : Float) → (T b → Place s soft rounds row i k) → Chosen s soft rounds row c → Chosen s soft rounds row (better_place c i k (judged b cost))
  better_chosen c i k false cost f u = u
  better_chosen c i k true cost f u = go (wins cost c)
    where
      go : (b : Bool) → Chosen s soft rounds row (cond b (Some (i, k, cost)) c)
      go true = f tt
      go false = u

  places_chosen : (i : ℕ) → i < length rounds → T (takes s soft (round_at rounds i).vehicle (round_at rounds i).stops row) → (c : Choice) (n k : ℕ) → k + n ≤ suc (length (round_at rounds i).stops) → Chosen s soft rounds row c
      → Chosen s soft rounds row (places_from s soft (round_at rounds i).vehicle (round_at rounds i).stops row i c n k)
  unfolding places_from judge_at
  places_chosen i h t c zero k m u = u
  places_chosen i h t c (suc n) k m u =
      let v = (round_at rounds i).vehicle in
      let route = (round_at rounds i).stops in
      places_chosen i h t (better_place c i k (judge_at s soft v route row k)) n (k + 1) (omega (arith, m))
      (better_chosen c i k (passes s 0 v (inserted k row route)) (insertion_cost s soft v route row k) (λ p. record { round = h; place = omega (arith, m); taken = t; passed = p }) u)

  round_chosen : (c : Choice) (i : ℕ) → i < length rounds → Chosen s soft rounds row c → Chosen s soft rounds row (in_round s soft row c i (round_at rounds i))
  unfolding in_round
  round_chosen c i h u = go (takes s soft (round_at rounds i).vehicle (round_at rounds i).stops row) (λ t. t)
    where
      go : (b : Bool) → (T b → T (takes s soft (round_at rounds i).vehicle (round_at rounds i).stops row))
          → Chosen s soft rounds row (cond b (places_from s soft (round_at rounds i).vehicle (round_at rounds i).stops row i c (suc (length (round_at rounds i).stops)) 0) c)
      go true f = places_chosen i h (f tt) c (suc (length (round_at rounds i).stops)) 0 (omega arith) u
      go false f = u

  -- the rounds from the i-th on
  rounds_chosen : (rs : List Round) (c : Choice) (i : ℕ) → i + length rs ≤ length rounds → ((k : ℕ) → k < length rs → round_at rs k ≡ round_at rounds (i + k)) → Chosen s soft rounds row c
      → Chosen s soft rounds row (insertion_from s soft row c i rs)
  unfolding insertion_from
  rounds_chosen [] c i h e u = u
  rounds_chosen (r ∷ rs) c i h e u =
      let here : r ≡ round_at rounds i = e 0 (zero-lt-suc (length rs)) ∙ ap (round_at rounds) (add-zero i) in
      rounds_chosen rs (in_round s soft row c i r) (i + 1) (omega (arith, h))
      (λ k l. e (suc k) (suc-le-suc l) ∙ ap (round_at rounds) (let n : i + suc k ≡ i + 1 + k = omega arith in n))
      (subst (λ (q : Round). Chosen s soft rounds row (in_round s soft row c i q)) (sym here) (round_chosen c i (omega (arith, h)) u))

  pub insertion_chosen : Chosen s soft rounds row (cheapest_insertion s soft rounds row)
  insertion_chosen = rounds_chosen rounds None 0 (omega arith) (λ k h. ap (round_at rounds) (sym (zero-add k))) tt

-- ---- the stops pending
abbrev pub Picked : List ℕ → Bool → List Round → List ℕ → Pick → Type 0
Picked s soft rounds pending None = Unit
Picked s soft rounds pending (Some (j, i, k, cost)) = (j < length pending) × Place s soft rounds (get_or pending j 0) i k

module _ (s : List ℕ) (soft : Bool) (rounds : List Round) (pending : List ℕ) where
  with_picked : (p : Pick) (j : ℕ) (c : Choice) → j < length pending → Chosen s soft rounds (get_or pending j 0) c → Picked s soft rounds pending p → Picked s soft rounds pending (pick_with p j c)
  with_picked p j None h e u = u
  with_picked p j (Some (i, k, cost)) h e u = go (cheaper cost p)
    where
      go : (b : Bool) → Picked s soft rounds pending (cond b (Some (j, i, k, cost)) p)
      go true = (h, e)
      go false = u

  -- those from place j on
  rows_picked : (rows : List ℕ) (p : Pick) (j : ℕ) → j + length rows ≤ length pending → ((k : ℕ) → k < length rows → get_or rows k 0 ≡ get_or pending (j + k) 0) → Picked s soft rounds pending p
      → Picked s soft rounds pending (pick_from s soft rounds p j rows)
  unfolding pick_from
  rows_picked [] p j h e u = u
  rows_picked (row ∷ rows) p j h e u =
      let here : row ≡ get_or pending j 0 = e 0 (zero-lt-suc (length rows)) ∙ ap (λ (n : ℕ). get_or pending n 0) (add-zero j) in
      let c = cheapest_insertion s soft rounds row in
      rows_picked rows (pick_with p j c) (j + 1) (omega (arith, h))
      (λ k l. e (suc k) (suc-le-suc l) ∙ ap (λ (n : ℕ). get_or pending n 0) (let n : j + suc k ≡ j + 1 + k = omega arith in n))
      (with_picked p j c (omega (arith, h)) (subst (λ (i : ℕ). Chosen s soft rounds i c) here (insertion_chosen s soft rounds row)) u)

  pub pick_picked : Picked s soft rounds pending (pick_of s soft rounds pending)
  pick_picked = rows_picked pending None 0 (omega arith) (λ k h. ap (λ (n : ℕ). get_or pending n 0) (sym (zero-add k))) tt

-- ---- the round that is dropped
pub record Among (rounds : List Round) (l : Least) : Type 0 where
  pub round : l.round < length rounds
  pub stops : l.stops ≡ (round_at rounds l.round).stops

module _ (s : List ℕ) (rounds : List Round) where
  least_among : (l : Least) (i : ℕ) → i < length rounds → Among rounds l → Among rounds (least_with s l i (round_at rounds i).stops)
  least_among l i h a = go (lesser s (round_at rounds i).stops l.stops)
    where
      go : (b : Bool) → Among rounds (cond b (record { round = i; stops = (round_at rounds i).stops }) l)
      go true = record { round = h; stops = refl }
      go false = a

  from_among : (rs : List Round) (l : Least) (i : ℕ) → i + length rs ≤ length rounds → ((k : ℕ) → k < length rs → round_at rs k ≡ round_at rounds (i + k)) → Among rounds l
      → Among rounds (least_from s l i rs)
  unfolding least_from
  from_among [] l i h e a = a
  from_among (r ∷ rs) l i h e a =
      let here : r ≡ round_at rounds i = e 0 (zero-lt-suc (length rs)) ∙ ap (round_at rounds) (add-zero i) in
      from_among rs (least_with s l i r.stops) (i + 1) (omega (arith, h))
      (λ k q. e (suc k) (suc-le-suc q) ∙ ap (round_at rounds) (let n : i + suc k ≡ i + 1 + k = omega arith in n))
      (subst (λ (q : Round). Among rounds (least_with s l i q.stops)) (sym here) (least_among l i (omega (arith, h)) a))

pub victim_among : (s : List ℕ) (rounds : List Round) → 0 < length rounds → Among rounds (victim_of s rounds)
unfolding victim_of
victim_among s [] h = absurd (omega arith)
victim_among s (r ∷ rs) h =
    from_among s (r ∷ rs) rs (record { round = 0; stops = r.stops }) 1 (omega arith) (λ k l. ap (round_at (r ∷ rs)) (let n : suc k ≡ 1 + k = omega arith in n)) (record { round = h; stops = refl })
