-- The deal is shared, and even: when a round is dealt its crew has the least total, and the crew's other rounds are no shorter. Assumes nothing.
use Rattle.std.specs.Prelude.{◌≡◌, refl, Bool, true, false, List, [], ◌∷◌, eqb, length, get_or, set, replicate}
use Rattle.std.proofs.Common.{sym, ap, ◌∙◌, subst, le_of_eq, arith, eqb-true, eq-eqb, ne_eqb}
use Prim.Native.Nat.{ℕ, zero, suc, ◌+◌, ◌≤◌, ◌<◌}
use Rattle.std.proofs.Math.Decide.{ℕ_discrete}
use Rattle.std.proofs.Math.ListN.{length-set}
use Rattle.std.proofs.lemmas.List.{length-replicate, get_or-replicate}
use Rattle.std.proofs.Math.Seq.{get_or-set_same, get_or-set_other}
use Rattle.lists.specs.Count.{one, count}
use Rattle.lists.specs.Laws.Permutation.{count_at}
use Rattle.crews.specs.Deal.{total_of, longest_left, least_crew, dealt_next, dealt_on, dealt}
use Rattle.crews.specs.Fair.{Shared, Even}
use Rattle.crews.specs.Laws.Totals.{total_own, total_other, by_shortest}
use Rattle.crews.specs.Laws.Least.{least_crew_lem, least_total}
use Rattle.crews.specs.Laws.Left.{Longest, longest_left_lem}

-- ---- how many rounds are left: as many as stand at 0
count_all : (x n : ℕ) → count x (replicate n x) ≡ n
unfolding count
count_all x zero = refl
count_all x (suc n) = rw (eq-eqb x x refl) (omega (arith, count_all x n))

count_less : (xs : List ℕ) (i y : ℕ) → i < length xs → (get_or xs i 0 ≡ y → ⊥) → suc (count (get_or xs i 0) (set xs i y)) ≡ count (get_or xs i 0) xs
unfolding count
count_less [] i y h ne = absurd (omega arith)
count_less (x ∷ xs) zero y h ne = rw (eq-eqb x x refl, ne_eqb x y ne) (omega arith)
count_less (x ∷ xs) (suc i) y h ne = omega (arith, count_less xs i y (omega arith) ne)

count_some : (x : ℕ) (xs : List ℕ) → 0 < count x xs → (i : ℕ) × (i < length xs) × (get_or xs i 0 ≡ x)
unfolding count
count_some x [] h = absurd (omega arith)
count_some x (y ∷ ys) h = go (eqb x y) refl h (count_some x ys)
  where
    go : (b : Bool) → eqb x y ≡ b → 0 < one b + count x ys → (0 < count x ys → (i : ℕ) × (i < length ys) × (get_or ys i 0 ≡ x)) → (i : ℕ) × (i < suc (length ys)) × (get_or (y ∷ ys) i 0 ≡ x)
    go true e l r = (0, omega arith, sym (eqb-true x y e))
    go false e l r = let s = r (omega arith) in (suc s.0, omega (arith, s.1), s.2)

-- a deal on its way
record Balanced (w : ℕ) (ds deal : List ℕ) : Type 0 where
  long : length deal ≡ length ds
  crew : (i : ℕ) → i < length ds → get_or deal i 0 ≤ w
  -- no crew that has a round exceeds another by more than that round
  near : (i b : ℕ) → i < length ds → 1 ≤ get_or deal i 0 → 1 ≤ b → b ≤ w → total_of deal ds (get_or deal i 0) ≤ total_of deal ds b + get_or ds i 0
  -- no round left is longer than one that is dealt
  falls : (i k : ℕ) → i < length ds → 1 ≤ get_or deal i 0 → k < length ds → get_or deal k 0 ≡ 0 → get_or ds k 0 ≤ get_or ds i 0

module _ (w : ℕ) (ds : List ℕ) (some : 1 ≤ w) where
  -- ---- the next round, j, dealt to crew c
  module _ (deal : List ℕ) (h : Balanced w ds deal) (j : ℕ) (l : Longest deal ds (length ds) j) where
    c : ℕ
    c = least_crew (total_of deal ds) w

    next : List ℕ
    next = set deal j (least_crew (total_of deal ds) w)

    c_from : 1 ≤ c
    unfolding c
    c_from = (least_crew_lem (total_of deal ds) w some).0

    c_to : c ≤ w
    unfolding c
    c_to = (least_crew_lem (total_of deal ds) w some).1

    c_least : (b : ℕ) → 1 ≤ b → b ≤ w → total_of deal ds c ≤ total_of deal ds b
    unfolding c
    c_least b m n = least_total (total_of deal ds) w b m n

    own : total_of next ds c ≡ total_of deal ds c + get_or ds j 0
    unfolding c next
    own = total_own deal ds j c (omega (arith, h.long, l.round)) l.round (λ e. omega (arith, l.left, c_from))

    other : (b : ℕ) → 1 ≤ b → (c ≡ b → ⊥) → total_of next ds b ≡ total_of deal ds b
    unfolding c next
    other b m ne = total_other deal ds j c b (λ e. omega (arith, l.left)) ne

    grows : (b : ℕ) → 1 ≤ b → total_of deal ds b ≤ total_of next ds b
    grows b m = elim (ℕ_discrete c b) [ yes e ↦ subst (λ (x : ℕ). total_of deal ds x ≤ total_of next ds x) e (let o = own in omega arith) | no ne ↦ le_of_eq (sym (other b m ne)) ]

    at_j : get_or next j 0 ≡ c
    unfolding c next
    at_j = get_or-set_same deal j c 0 (omega (arith, h.long, l.round))

    at_other : (i : ℕ) → (i ≡ j → ⊥) → get_or next i 0 ≡ get_or deal i 0
    unfolding next
    at_other i ne = get_or-set_other deal j i _ 0 ne

    -- crew c against another, by any round that is no shorter than j
    c_near : (b d : ℕ) → 1 ≤ b → b ≤ w → get_or ds j 0 ≤ d → total_of next ds c ≤ total_of next ds b + d
    c_near b d m n s =
        elim (ℕ_discrete c b) [
          | yes e ↦ subst (λ (x : ℕ). total_of next ds c ≤ total_of next ds x + d) e (omega arith)
          | no ne ↦ omega (arith, own, other b m ne, c_least b m n)
        ]

    next_near : (i b : ℕ) → i < length ds → 1 ≤ get_or next i 0 → 1 ≤ b → b ≤ w → total_of next ds (get_or next i 0) ≤ total_of next ds b + get_or ds i 0
    next_near i b r s m n =
        elim (ℕ_discrete i j) [
          | yes e ↦ subst (λ (x : ℕ). total_of next ds x ≤ total_of next ds b + get_or ds i 0) (sym (ap (λ (x : ℕ). get_or next x 0) e ∙ at_j)) (c_near b (get_or ds i 0) m n (le_of_eq (ap (λ (x : ℕ). get_or ds x 0) (sym e))))
          | no ne ↦ subst (λ (x : ℕ). total_of next ds x ≤ total_of next ds b + get_or ds i 0) (sym (at_other i ne)) (old (subst (λ (x : ℕ). 1 ≤ x) (at_other i ne) s))
        ]
      where
        old : 1 ≤ get_or deal i 0 → total_of next ds (get_or deal i 0) ≤ total_of next ds b + get_or ds i 0
        old s =
            elim (ℕ_discrete c (get_or deal i 0)) [
              | yes e ↦ subst (λ (x : ℕ). total_of next ds x ≤ total_of next ds b + get_or ds i 0) e (c_near b (get_or ds i 0) m n (h.falls i j r s l.round l.left))
              | no ne ↦ omega (arith, other (get_or deal i 0) s ne, h.near i b r s m n, grows b m)
            ]

    next_crew : (i : ℕ) → i < length ds → get_or next i 0 ≤ w
    next_crew i r =
        elim (ℕ_discrete i j) [
          | yes e ↦ subst (λ (x : ℕ). x ≤ w) (sym (ap (λ (x : ℕ). get_or next x 0) e ∙ at_j)) c_to
          | no ne ↦ subst (λ (x : ℕ). x ≤ w) (sym (at_other i ne)) (h.crew i r)
        ]

    next_left : (k : ℕ) → get_or next k 0 ≡ 0 → get_or deal k 0 ≡ 0
    next_left k e =
        elim (ℕ_discrete k j) [
          | yes q ↦ absurd (omega (arith, c_from, sym (ap (λ (x : ℕ). get_or next x 0) q ∙ at_j) ∙ e))
          | no ne ↦ sym (at_other k ne) ∙ e
        ]

    next_falls : (i k : ℕ) → i < length ds → 1 ≤ get_or next i 0 → k < length ds → get_or next k 0 ≡ 0 → get_or ds k 0 ≤ get_or ds i 0
    next_falls i k r s q e =
        elim (ℕ_discrete i j) [
          | yes p ↦ subst (λ (x : ℕ). get_or ds k 0 ≤ get_or ds x 0) (sym p) (l.longest k q (next_left k e))
          | no ne ↦ h.falls i k r (subst (λ (x : ℕ). 1 ≤ x) (at_other i ne) s) q (next_left k e)
        ]

    step : Balanced w ds (set deal j (least_crew (total_of deal ds) w))
    unfolding next
    step = record { long = length-set deal j _ ∙ h.long; crew = next_crew; near = next_near; falls = next_falls }

    fewer : suc (count 0 (set deal j (least_crew (total_of deal ds) w))) ≡ count 0 deal
    unfolding c
    fewer = rw l.left at (count_less deal j c (omega (arith, h.long, l.round)) (λ e. omega (arith, l.left, c_from)))

  -- ---- all of them
  ends : (n : ℕ) (deal : List ℕ) → Balanced w ds deal → count 0 deal ≡ n → Balanced w ds (dealt_on w ds n deal) × (count 0 (dealt_on w ds n deal) ≡ 0)
  unfolding dealt_on dealt_next
  ends zero deal h e = (h, e)
  ends (suc n) deal h e =
      let k = count_some 0 deal (omega arith) in
      let j = longest_left deal ds (length ds) in
      let l = longest_left_lem deal ds (length ds) k.0 (omega (arith, k.1, h.long)) k.2 in
      ends n (set deal j (least_crew (total_of deal ds) w)) (step deal h j l) (omega (arith, fewer deal h j l))

  none : (i : ℕ) → i < length ds → ◌≡◌ {A = ℕ} (get_or (replicate (length ds) 0) i 0) 0
  none i r = get_or-replicate (length ds) i 0 0 r

  starts : Balanced w ds (replicate (length ds) 0)
  starts = record {
    long = length-replicate (length ds) 0;
    crew = λ i r. omega (arith, none i r);
    near = λ i b r s m n. absurd (omega (arith, none i r));
    falls = λ i k r s q e. absurd (omega (arith, none i r));
  }

  done : Balanced w ds (dealt w ds) × (count 0 (dealt w ds) ≡ 0)
  unfolding dealt
  done = ends (length ds) (replicate (length ds) 0) starts (count_all 0 (length ds))

pub dealt_shared : (w : ℕ) (ds : List ℕ) → 1 ≤ w → Shared w ds (dealt w ds)
dealt_shared w ds some =
    let d = done w ds some in
    record { long = d.0.long; crew = λ i r. (given i r, d.0.crew i r) }
  where
    given : (i : ℕ) → i < length ds → 1 ≤ get_or (dealt w ds) i 0
    given i r =
        let d = done w ds some in
        elim (ℕ_discrete (get_or (dealt w ds) i 0) 0) [
          | yes e ↦ absurd (omega (arith, d.1, subst (λ (x : ℕ). 0 < count x (dealt w ds)) e (count_at (dealt w ds) i (omega (arith, d.0.long)))))
          | no ne ↦ omega (arith, ne)
        ]

-- "no crew's total exceeds another's by more than its own shortest round (0 if it has none)"
pub dealt_even : (w : ℕ) (ds : List ℕ) → 1 ≤ w → Even w ds (dealt w ds)
dealt_even w ds some a b k l m n =
    let d = (done w ds some).0 in
    by_shortest (dealt w ds) ds a (total_of (dealt w ds) ds b)
    (λ i p r e. subst (λ (x : ℕ). total_of (dealt w ds) ds x ≤ total_of (dealt w ds) ds b + get_or ds i 0) e (d.near i b r (omega (arith, e)) m n))
