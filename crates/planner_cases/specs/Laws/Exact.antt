-- "on whole numbers below 2^53 the sums are exact": a saving is what whole numbers say, above 0 and below. Assumes nothing.
use Rattle.std.specs.Prelude.{◌≡◌, refl, ℕ, ◌+◌, ◌-◌, ◌≤◌, ◌<◌, Bool, true, false, List, leb, ltb, Float}
use Rattle.std.proofs.Common.{sym, ◌∙◌, subst, le_of_lt, arith, true≢false, leb-true, leb-false, ltb-true, ltb-false, lt-ltb, le-ltb}
use Rattle.std.specs.Float.{nan, inf, fin}
use Rattle.std.specs.Float.Ieee.{of_bits, of_fields, odd, lt}
use Rattle.std.specs.Float.Ieee.Exact.{HasValue}
use Rattle.sheet.specs.Fields.{rows_of}
use Rattle.sheet.specs.Accepted.{Accepted}
use Rattle.sheet.specs.Values.{nought, distance_of}
use Rattle.evaluation_clock.specs.Sums.{◌⊕◌, ◌⊖◌}
use Rattle.lawful.specs.Whole.{Whole, Is}
use Rattle.lawful.specs.Lawful.{distance_n}
use Rattle.lawful.specs.Laws.Whole.{lt_whole, add_whole, sub_whole, sub_below, add_back, add_below}
use Rattle.lawful.specs.Laws.Amounts.{Amount, distance_amount}
use Rattle.lawful.specs.Laws.Windows.{nought_is}
use Rattle.constructive.specs.declared.terms.Terms.{Terms}
use Rattle.clarke_wright_savings.specs.Savings.{value_of}
use Rattle.planner_cases.specs.Exact.{saved_n}

-- what is below 0 is not above it
below_nought : (n : ℕ) (x : Float) → HasValue x true n 1 → lt nought x ≡ false
unfolding of_bits of_fields odd lt
below_nought n nan v = absurd v
below_nought n (inf t) v = absurd v
below_nought n (fin false m e) v = absurd (true≢false (sym v.0))
below_nought n (fin true m e) v = refl

-- f is the fixed cost, a whole number
module _ (s : List ℕ) (a : Accepted s) (w : Whole s) (t : Terms) (i j f : ℕ) (home : t.depot < rows_of s) (hi : i < rows_of s) (hj : j < rows_of s) (fixed : Amount f t.fixed) where
  -- both ways together, and the leg
  record Ways (ways leg : ℕ) : Type 0 where
    ways_are : Is ways (distance_of s i t.depot ⊕ distance_of s t.depot j)
    leg_is : Is leg (distance_of s i j)
    ways_small : ways ≤ 2_000_000_000
    leg_small : leg ≤ 1_000_000_000
    fixed_small : f ≤ 1_000_000_000

  driven : Ways (distance_n s i t.depot + distance_n s t.depot j) (distance_n s i j)
  driven =
      let d = t.depot in
      let p = distance_amount s a w i d hi home in
      let q = distance_amount s a w d j home hj in
      let r = distance_amount s a w i j hi hj in
      let x = p.small in
      let y = q.small in
      record {
        ways_are = add_whole (distance_n s i d) (distance_n s d j) (distance_of s i d) (distance_of s d j) p.is q.is (omega arith);
        leg_is = r.is;
        ways_small = omega arith;
        leg_small = r.small;
        fixed_small = fixed.small;
      }

  module _ (ways leg : ℕ) (d : Ways ways leg) where
    less : leg ≤ ways → Is (ways - leg) (distance_of s i t.depot ⊕ distance_of s t.depot j ⊖ distance_of s i j)
    less h = sub_whole ways leg _ (distance_of s i j) d.ways_are d.leg_is (omega (arith, d.ways_small)) h

    more : ways < leg → HasValue (distance_of s i t.depot ⊕ distance_of s t.depot j ⊖ distance_of s i j) true (leg - ways) 1
    more h = sub_below ways leg _ (distance_of s i j) d.ways_are d.leg_is h (omega (arith, d.leg_small))

    value : leg ≤ ways + f → Is (ways + f - leg) (value_of s t i j)
    value h = by (leb leg ways) refl
      where
        by : (b : Bool) → leb leg ways ≡ b → Is (ways + f - leg) (value_of s t i j)
        by true e =
            let k = leb-true leg ways e in
            subst (λ (n : ℕ). Is n (value_of s t i j)) (omega arith) (add_whole (ways - leg) f _ t.fixed (less k) fixed.is (omega (arith, d.ways_small, d.fixed_small)))
        by false e =
            let k = leb-false leg ways e in
            subst (λ (n : ℕ). Is n (value_of s t i j)) (omega arith) (add_back (leg - ways) f _ t.fixed (more k) fixed.is (omega arith) (omega (arith, d.fixed_small)))

    loss : ways + f < leg → HasValue (value_of s t i j) true (leg - (ways + f)) 1
    loss h =
        subst (λ (n : ℕ). HasValue (value_of s t i j) true n 1) (omega arith)
        (add_below (leg - ways) f _ t.fixed (more (omega arith)) fixed.is (omega arith) (omega (arith, d.leg_small)))

    above : lt nought (value_of s t i j) ≡ ltb leg (ways + f)
    above = by (leb leg (ways + f)) refl
      where
        same : leg ≤ ways + f → ltb 0 (ways + f - leg) ≡ ltb leg (ways + f)
        same h = go (ltb leg (ways + f)) refl
          where
            go : (b : Bool) → ltb leg (ways + f) ≡ b → ltb 0 (ways + f - leg) ≡ b
            go true e = let k = ltb-true leg (ways + f) e in lt-ltb 0 (ways + f - leg) (omega arith)
            go false e = let k = ltb-false leg (ways + f) e in le-ltb 0 (ways + f - leg) (omega arith)

        by : (b : Bool) → leb leg (ways + f) ≡ b → lt nought (value_of s t i j) ≡ ltb leg (ways + f)
        by true e = let k = leb-true leg (ways + f) e in lt_whole 0 (ways + f - leg) nought (value_of s t i j) nought_is (value k) ∙ same k
        by false e = let k = leb-false leg (ways + f) e in below_nought (leg - (ways + f)) (value_of s t i j) (loss k) ∙ sym (le-ltb leg (ways + f) (le_of_lt k))

  -- the difference, also where the leg is longer than both ways together and takes from the fixed cost
  pub saving_exact : distance_n s i j ≤ saved_n s t f i j → Is (saved_n s t f i j - distance_n s i j) (value_of s t i j)
  saving_exact h = value _ _ driven h

  -- a leg that is longer still
  pub saving_below : saved_n s t f i j < distance_n s i j → HasValue (value_of s t i j) true (distance_n s i j - saved_n s t f i j) 1
  saving_below h = loss _ _ driven h

  -- "only savings > 0": the test that takes a saving
  pub saving_above : lt nought (value_of s t i j) ≡ ltb (distance_n s i j) (saved_n s t f i j)
  saving_above = above _ _ driven
