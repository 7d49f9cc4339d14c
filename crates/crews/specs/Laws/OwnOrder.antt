-- Rounds dealt in their own order, each to the crew with the least total: that is bounded as a deal of the longest first is, but not even. Assumes nothing.
use Rattle.std.specs.Prelude.{◌≡◌, refl, List, [], ◌∷◌, length, get_or, set, replicate}
use Rattle.std.proofs.Common.{ap, ◌∙◌, subst, arith, le_of_suc-le-suc, eq-or-lt_of_le}
use Rattle.std.proofs.Math.Logic.{inl, inr}
use Prim.Native.Nat.{ℕ, zero, suc, ◌+◌, ◌-◌, ◌*◌, ◌≤◌, ◌<◌}
use native.Mathlib.Nat.{mul-le-mul_right, add-mul}
use Rattle.std.proofs.Math.Nat.{mul-suc}
use Rattle.std.proofs.Math.Decide.{ℕ_discrete}
use Rattle.std.proofs.Math.ListN.{length-set}
use Rattle.std.proofs.lemmas.List.{length-replicate, get_or-replicate}
use Rattle.std.proofs.Math.Seq.{get_or-set_other}
use Rattle.crews.specs.Deal.{total_of, has_round, shortest_of, least_crew}
use Rattle.crews.specs.Fair.{longest, crews_sum, Even, LargestBounded}
use Rattle.crews.specs.Laws.Totals.{total_own, total_other, total_none}
use Rattle.crews.specs.Laws.Least.{least_crew_lem, least_total}
use Rattle.crews.specs.Laws.Bound.{near_all, largest_each}

-- n rounds more, from round i on
unfoldable pub own_order_on : ℕ → List ℕ → ℕ → ℕ → List ℕ → List ℕ
own_order_on w ds i zero deal = deal
own_order_on w ds i (suc n) deal = own_order_on w ds (suc i) n (set deal i (least_crew (total_of deal ds) w))

unfoldable pub own_order : ℕ → List ℕ → List ℕ
own_order w ds = own_order_on w ds 0 (length ds) (replicate (length ds) 0)

-- 1 to crew 1, 1 to crew 2, 2 to crew 1: 3 against 1, and crew 1 has a round of 1
pub own_order_dealt : own_order 2 (1 ∷ 1 ∷ 2 ∷ []) ≡ 1 ∷ 2 ∷ 1 ∷ []
unfolding own_order own_order_on least_crew total_of
own_order_dealt = refl

pub own_order_uneven : Even 2 (1 ∷ 1 ∷ 2 ∷ []) (own_order 2 (1 ∷ 1 ∷ 2 ∷ [])) → ⊥
unfolding own_order own_order_on least_crew total_of shortest_of has_round
own_order_uneven even = let l = even 1 2 (omega arith) (omega arith) (omega arith) (omega arith) in omega arith

-- ---- bounded all the same
at_longest : (ds : List ℕ) (j : ℕ) → get_or ds j 0 ≤ longest ds
unfolding longest
at_longest [] j = omega arith
at_longest (d ∷ ds) zero = omega arith
at_longest (d ∷ ds) (suc j) = let l = at_longest ds j in omega arith

-- one crew's total grows by d
sum_same : (t u : ℕ → ℕ) (w : ℕ) → ((b : ℕ) → 1 ≤ b → b ≤ w → u b ≡ t b) → crews_sum u w ≡ crews_sum t w
unfolding crews_sum
sum_same t u zero h = refl
sum_same t u (suc w) h = let e = sum_same t u w (λ b m n. h b m (omega arith)) in omega (arith, h (suc w) (omega arith) (omega arith))

sum_more : (t u : ℕ → ℕ) (d c w : ℕ) → 1 ≤ c → c ≤ w → u c ≡ t c + d → ((b : ℕ) → 1 ≤ b → b ≤ w → (c ≡ b → ⊥) → u b ≡ t b) → crews_sum u w ≡ crews_sum t w + d
unfolding crews_sum
sum_more t u d c zero m n e h = absurd (omega arith)
sum_more t u d c (suc w) m n e h =
    elim (eq-or-lt_of_le n) [
      | inl q ↦
          let less = sum_same t u w (λ b k l. h b k (omega arith) (λ p. omega (arith, q, p))) in
          let last : u (suc w) ≡ t (suc w) + d = subst (λ (x : ℕ). u x ≡ t x + d) q e in
          omega arith
      | inr k ↦
          let less = sum_more t u d c w m (le_of_suc-le-suc k) e (λ b k l. h b k (omega arith)) in
          omega (arith, h (suc w) (omega arith) (omega arith) (λ p. omega (arith, k, p)))
    ]

module _ (w : ℕ) (ds : List ℕ) (some : 1 ≤ w) where
  -- the rounds before i are dealt
  record Dealt (i : ℕ) (deal : List ℕ) : Type 0 where
    long : length deal ≡ length ds
    left : (k : ℕ) → i ≤ k → k < length ds → get_or deal k 0 ≡ 0
    near : (c : ℕ) → 1 ≤ c → c ≤ w → total_of deal ds c * w ≤ crews_sum (total_of deal ds) w + longest ds * (w - 1)

  module _ (i : ℕ) (deal : List ℕ) (h : Dealt i deal) (r : i < length ds) where
    c : ℕ
    c = least_crew (total_of deal ds) w

    next : List ℕ
    next = set deal i (least_crew (total_of deal ds) w)

    d : ℕ
    d = get_or ds i 0

    c_from : 1 ≤ c
    unfolding c
    c_from = (least_crew_lem (total_of deal ds) w some).0

    c_to : c ≤ w
    unfolding c
    c_to = (least_crew_lem (total_of deal ds) w some).1

    here : get_or deal i 0 ≡ 0
    here = h.left i (omega arith) r

    own : total_of next ds c ≡ total_of deal ds c + d
    unfolding c next d
    own = total_own deal ds i c (omega (arith, h.long)) r (λ e. omega (arith, here, c_from))

    other : (b : ℕ) → 1 ≤ b → (c ≡ b → ⊥) → total_of next ds b ≡ total_of deal ds b
    unfolding c next
    other b m ne = total_other deal ds i c b (λ e. omega (arith, here)) ne

    sum_next : crews_sum (total_of next ds) w ≡ crews_sum (total_of deal ds) w + d
    sum_next = sum_more (total_of deal ds) (total_of next ds) d c w c_from c_to own (λ b m n ne. other b m ne)

    least_sum : total_of deal ds c * w ≤ crews_sum (total_of deal ds) w
    unfolding c
    least_sum = omega (arith, near_all (total_of deal ds) (total_of deal ds c) 0 w (λ b m n. let l = least_total (total_of deal ds) w b m n in omega arith))

    one_more : d * w ≡ d * (w - 1) + d
    one_more = let e : w ≡ suc (w - 1) = omega arith in ap (λ (x : ℕ). d * x) e ∙ mul-suc d (w - 1)

    c_near : total_of next ds c * w ≤ crews_sum (total_of next ds) w + longest ds * (w - 1)
    unfolding d
    c_near =
        let far : d * (w - 1) ≤ longest ds * (w - 1) = mul-le-mul_right (w - 1) (at_longest ds i) in
        rw (own, add-mul (total_of deal ds c) d w) (omega (arith, sum_next, least_sum, one_more, far))

    next_near : (b : ℕ) → 1 ≤ b → b ≤ w → total_of next ds b * w ≤ crews_sum (total_of next ds) w + longest ds * (w - 1)
    next_near b m n =
        elim (ℕ_discrete c b) [
          | yes e ↦ subst (λ (x : ℕ). total_of next ds x * w ≤ crews_sum (total_of next ds) w + longest ds * (w - 1)) e c_near
          | no ne ↦ rw (other b m ne) (omega (arith, h.near b m n, sum_next))
        ]

    goes : Dealt (suc i) (set deal i (least_crew (total_of deal ds) w))
    unfolding next
    goes = record {
      long = length-set deal i _ ∙ h.long;
      left = λ k l m. get_or-set_other deal i k _ 0 (λ e. omega (arith, e)) ∙ h.left k (omega arith) m;
      near = next_near;
    }

  all_near : (n i : ℕ) (deal : List ℕ) → i + n ≡ length ds → Dealt i deal → Dealt (length ds) (own_order_on w ds i n deal)
  unfolding own_order_on
  all_near zero i deal e h = subst (λ (x : ℕ). Dealt x deal) (let q : i ≡ length ds = omega arith in q) h
  all_near (suc n) i deal e h = all_near n (suc i) _ (omega arith) (goes i deal h (omega arith))

  starts : Dealt 0 (replicate (length ds) 0)
  starts = record {
    long = length-replicate (length ds) 0;
    left = λ k l m. get_or-replicate (length ds) k 0 0 m;
    near = λ c m n. rw (total_none (length ds) c ds m) (omega arith);
  }

  -- whatever the durations: what such a deal can miss is that it is even
  pub own_order_bounded : LargestBounded w ds (own_order w ds)
  unfolding own_order
  own_order_bounded = largest_each (total_of (own_order w ds) ds) w _ w (all_near (length ds) 0 (replicate (length ds) 0) (omega arith) starts).near
