-- What the sort asks of the savings: their values are numbers, and their places are theirs. And how many they are. Assumes nothing.
use Rattle.std.specs.Prelude.{◌≡◌, refl, ℕ, zero, suc, ◌+◌, ◌*◌, ◌≤◌, Bool, true, false, List, [], ◌∷◌, T, Float, length}
use Rattle.std.proofs.Common.{ap, zero-le, suc-mul, arith, length-append}
use Rattle.std.specs.Float.Ieee.{lt}
use Rattle.std.specs.Float.Ieee.Fits.{and_r}
use Rattle.std.proofs.lemmas.Float.{le_of_lt, le_right}
use Rattle.lists.specs.Every.{Every}
use Rattle.lists.specs.Laws.Every.{every_at, every_append}
use Rattle.sorting.specs.Descending.{key_of, Numbers, Entries}
use Rattle.sheet.specs.Values.{nought}
use Rattle.clarke_wright_savings.specs.declared.terms.Directed.{Directed}
use Rattle.clarke_wright_savings.specs.Savings.{Saving, value_of, saving_of, paired, saves, kept_if, savings_from, savings_of, values_of, numbered}

-- ---- "only savings > 0"
abbrev Positive : Saving → Type 0
Positive x = T (lt nought x.value)

pub kept_every : (P : Saving → Type 0) (b : Bool) (x : Saving) (xs : List Saving) → (T b → P x) → Every P xs → Every P (kept_if b x xs)
kept_every P true x xs f e = (f tt, e)
kept_every P false x xs f e = e

from_positive : (s : List ℕ) (t : Directed) (i : ℕ) (js : List ℕ) → Every Positive (savings_from s t i js)
unfolding savings_from
from_positive s t i [] = tt
from_positive s t i (j ∷ js) =
    kept_every Positive (saves s t i j) (saving_of s t.common i j) (savings_from s t i js) (and_r (paired t.directed i j) (lt nought (value_of s t.common i j))) (from_positive s t i js)

savings_positive : (s : List ℕ) (t : Directed) (members is : List ℕ) → Every Positive (savings_of s t members is)
unfolding savings_of
savings_positive s t members [] = tt
savings_positive s t members (i ∷ is) =
    every_append Positive (savings_from s t i members) (savings_of s t members is) (from_positive s t i members) (savings_positive s t members is)

values_above : (savings : List Saving) → Every Positive savings → Every (λ (y : Float). T (lt nought y)) (values_of savings)
values_above [] e = tt
values_above (x ∷ xs) e = (e.0, values_above xs e.1)

pub savings_numbers : (s : List ℕ) (t : Directed) (members is : List ℕ) → Numbers (values_of (savings_of s t members is))
savings_numbers s t members is k h =
    let ys = values_of (savings_of s t members is) in
    le_right nought (key_of ys k) (le_of_lt nought (key_of ys k) (every_at (λ (y : Float). T (lt nought y)) nought ys k h (values_above (savings_of s t members is) (savings_positive s t members is))))

-- ---- the places
numbered_below : (keys : List Float) (n k : ℕ) → k + n ≤ length keys → Entries keys (numbered n k)
unfolding numbered
numbered_below keys zero k h = tt
numbered_below keys (suc n) k h = (omega (arith, h), numbered_below keys n (k + 1) (omega (arith, h)))

values_length : (savings : List Saving) → length (values_of savings) ≡ length savings
values_length [] = refl
values_length (x ∷ xs) = ap suc (values_length xs)

pub savings_entries : (savings : List Saving) → Entries (values_of savings) (numbered (length savings) 0)
savings_entries savings = numbered_below (values_of savings) (length savings) 0 (omega (arith, values_length savings))

-- ---- how many: a saving for each leg between members at most
pub from_few : (s : List ℕ) (t : Directed) (i : ℕ) (js : List ℕ) → length (savings_from s t i js) ≤ length js
unfolding savings_from
from_few s t i [] = zero-le
from_few s t i (j ∷ js) = go (saves s t i j) (from_few s t i js)
  where
    go : (b : Bool) → length (savings_from s t i js) ≤ length js → length (kept_if b (saving_of s t.common i j) (savings_from s t i js)) ≤ suc (length js)
    go true h = omega (arith, h)
    go false h = omega (arith, h)

pub savings_few : (s : List ℕ) (t : Directed) (members is : List ℕ) → length (savings_of s t members is) ≤ length is * length members
unfolding savings_of
savings_few s t members [] = zero-le
savings_few s t members (i ∷ is) =
    let a = length-append (savings_from s t i members) (savings_of s t members is) in
    let b = from_few s t i members in
    let c = savings_few s t members is in
    let d = suc-mul (length is) (length members) in
    omega (arith, a, b, c, d)
