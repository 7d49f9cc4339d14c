-- Which saving is tried next: "greatest first, ties as generated". Assumes nothing.
use Rattle.std.specs.Prelude.{◌≡◌, refl, ℕ, zero, suc, ◌+◌, ◌≤◌, ◌<◌, Bool, true, false, cond, List, ◌∷◌, leb, eqb, length, get_or}
use Rattle.std.proofs.Common.{ap, ◌∙◌, arith, ne_eqb, eqb-true}
use Rattle.std.specs.Float.Ieee.{lt}
use Rattle.std.proofs.lemmas.Bool.{lt-leb, eqb-false}
use Rattle.sorting.specs.Lists.{kept, Each}
use Rattle.sorting.specs.Descending.{key_of, greater, Numbers}
use Rattle.sorting.specs.Laws.Stable.{sorted_length}
use Rattle.sorting.specs.Laws.Descending.{greater_order}
use Rattle.sorting.specs.Laws.Ranking.{Rising, sorted_ranking}
use Rattle.clarke_wright_savings.specs.declared.terms.Directed.{Directed}
use Rattle.clarke_wright_savings.specs.Savings.{Saving, savings_of, values_of, numbered, ranked}
use Rattle.clarke_wright_savings.specs.Laws.Ranked.{savings_numbers}

-- the places of savings in the order in which they are tried
pub record GreatestFirst (savings : List Saving) (places : List ℕ) : Type 0 where
  -- each stands there once, and nothing else does
  pub once : (e : ℕ) → e < length savings → length (kept (eqb e) places) ≡ 1
  pub long : length places ≡ length savings
  -- no value is below a later one
  pub greatest : (i j : ℕ) → i < j → j < length places → lt (key_of (values_of savings) (get_or places i 0)) (key_of (values_of savings) (get_or places j 0)) ≡ false
  -- and where it is not above it either, it was generated before it
  pub ties : (i j : ℕ) → i < j → j < length places → lt (key_of (values_of savings) (get_or places j 0)) (key_of (values_of savings) (get_or places i 0)) ≡ false → get_or places i 0 < get_or places j 0

-- ---- the places as generated
numbered_above : (n k x : ℕ) → x < k → Each (λ y. leb y x ≡ false) (numbered n k)
unfolding numbered
numbered_above zero k x h = tt
numbered_above (suc n) k x h = (lt-leb k x h, numbered_above n (k + 1) x (omega arith))

numbered_rising : (n k : ℕ) → Rising (numbered n k)
unfolding numbered
numbered_rising zero k = tt
numbered_rising (suc n) k = (numbered_above n (k + 1) k (omega arith), numbered_rising n (k + 1))

pub numbered_length : (n k : ℕ) → length (numbered n k) ≡ n
unfolding numbered
numbered_length zero k = refl
numbered_length (suc n) k = ap suc (numbered_length n (k + 1))

numbered_off : (e n k : ℕ) → e < k → length (kept (eqb e) (numbered n k)) ≡ 0
unfolding numbered kept
numbered_off e zero k h = refl
numbered_off e (suc n) k h = rw (ne_eqb e k (λ q. omega (arith, q))) (numbered_off e n (k + 1) (omega arith))

numbered_once : (e n k : ℕ) → k ≤ e → e < k + n → length (kept (eqb e) (numbered n k)) ≡ 1
unfolding numbered kept
numbered_once e zero k h l = absurd (omega arith)
numbered_once e (suc n) k h l = go (eqb e k) refl (λ m. numbered_once e n (k + 1) m (omega arith))
  where
    go : (b : Bool) → eqb e k ≡ b → (k + 1 ≤ e → length (kept (eqb e) (numbered n (k + 1))) ≡ 1) → length (cond b (k ∷ kept (eqb e) (numbered n (k + 1))) (kept (eqb e) (numbered n (k + 1)))) ≡ 1
    go true q r = ap suc (numbered_off e n (k + 1) (let u = eqb-true e k q in omega arith))
    go false q r = r (let u = eqb-false e k q in omega arith)

-- ---- ranked
pub ranked_greatest : (savings : List Saving) → Numbers (values_of savings) → GreatestFirst savings (ranked savings)
unfolding ranked
ranked_greatest savings numbers =
    let xs = numbered (length savings) 0 in
    let before = greater (values_of savings) in
    let r = sorted_ranking before (greater_order (values_of savings) numbers) xs (numbered_rising (length savings) 0) in
    record {
      once = λ e h. r.same (eqb e) ∙ numbered_once e (length savings) 0 (omega arith) (omega arith);
      long = sorted_length before xs ∙ numbered_length (length savings) 0;
      greatest = r.ordered;
      ties = r.ties;
    }

-- so those of a depot's members: each saving is above 0, and so no NaN
pub savings_greatest : (s : List ℕ) (t : Directed) (members : List ℕ) → GreatestFirst (savings_of s t members members) (ranked (savings_of s t members members))
savings_greatest s t members = ranked_greatest (savings_of s t members members) (savings_numbers s t members members)
