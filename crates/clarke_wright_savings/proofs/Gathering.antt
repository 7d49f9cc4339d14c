-- Loops that gather savings member by member into the tables. Assumes nothing.
use mathlib.Core.Path.{◌≡◌, refl, sym, ap, ◌∙◌}
use Prim.Native.Nat.{ℕ, suc, ◌+◌, ◌*◌, ◌≤◌, ◌<◌, zero-le}
use native.Mathlib.Nat.{add-zero, suc-mul, mul-le-mul_right}
use native.Mathlib.Omega.{arith}
use mathlib.Core.Bool.{Bool, true, false}
use mathlib.Core.List.{List, [], ◌∷◌, ◌++◌, append_assoc, append-nil}
use lib.ListN.{length, get_or, take, length-append}
use lib.Seq.{take_all, length-take-le}
use lib.Ieee.{Float}
use Rattle.std.proofs.lemmas.List.{take_more}
use Rattle.sheet.proofs.Cells.{square}
use Rattle.clarke_wright_savings.specs.declared.terms.Directed.{Directed}
use Rattle.clarke_wright_savings.specs.Savings.{Saving, saving_of, saves, kept_if, savings_from, savings_of, numbered}
use Rattle.clarke_wright_savings.specs.Laws.Ranked.{from_few, savings_few}
use Rattle.clarke_wright_savings.specs.Listed.{SavingsPushed}
use Rattle.clarke_wright_savings.proofs.Pushing.{pushes_on}

-- the tables are as long as they were, and hold the savings of the first k members from `at` to `end`
pub record Gathering (savings : List ℕ → List Saving) (members : List ℕ) (from₀ to₀ : List ℕ) (values₀ : List Float) (entries₀ : List ℕ) (at : ℕ) (from to : List ℕ) (values : List Float) (entries : List ℕ) (end k : ℕ) : Type 0 where
  pub within : k ≤ length members
  pub full : end ≡ at + length (savings (take k members))
  pub pushed : SavingsPushed from₀ to₀ values₀ entries₀ at (savings (take k members)) from to values entries

pub none_yet : (savings : List ℕ → List Saving) → savings [] ≡ [] → (members : List ℕ) (from to : List ℕ) (values : List Float) (entries : List ℕ) (at : ℕ)
    → Gathering savings members from to values entries at from to values entries at 0
unfolding numbered
none_yet savings e members from to values entries at = record {
  within = zero-le;
  full = rw (e, add-zero at);
  pushed =
      rw e
      record {
        starts = rw (add-zero at) (sym (append-nil (take at from)));
        ends = rw (add-zero at) (sym (append-nil (take at to)));
        saved = rw (add-zero at) (sym (append-nil (take at values)));
        placed = rw (add-zero at) (sym (append-nil (take at entries)));
      };
}

module _
    {savings : List ℕ → List Saving}
    {members : List ℕ}
    {from₀ to₀ : List ℕ}
    {values₀ : List Float}
    {entries₀ : List ℕ}
    {at : ℕ}
    {from to : List ℕ}
    {values : List Float}
    {entries : List ℕ}
    {end k : ℕ}
    (g : Gathering savings members from₀ to₀ values₀ entries₀ at from to values entries end k)
  where
    -- a member saves nothing
    skips : k < length members → savings (take (k + 1) members) ≡ savings (take k members)
        → Gathering savings members from₀ to₀ values₀ entries₀ at from to values entries end (k + 1)
    skips h e = record {
      within = omega arith;
      full = rw e g.full;
      pushed = rw e g.pushed;
    }

    -- a member's savings are put behind the others
    takes : k < length members → (ys : List Saving) → savings (take (k + 1) members) ≡ savings (take k members) ++ ys
        → (from' to' : List ℕ) (values' : List Float) (entries' : List ℕ) (end' : ℕ)
        → end' ≡ end + length ys → SavingsPushed from to values entries end ys from' to' values' entries'
        → Gathering savings members from₀ to₀ values₀ entries₀ at from' to' values' entries' end' (k + 1)
    takes h ys e from' to' values' entries' end' l u = record {
      within = omega arith;
      full = rw e (omega (arith, l, g.full, length-append (savings (take k members)) ys));
      pushed =
          rw e
          (pushes_on from₀ to₀ values₀ entries₀ at (savings (take k members)) from to values entries g.pushed ys from' to' values' entries'
          (rw (← g.full) u));
    }

    pub gathered : length members ≤ k → (end ≡ at + length (savings members)) × SavingsPushed from₀ to₀ values₀ entries₀ at (savings members) from to values entries
    gathered h =
        let e : take k members ≡ members = take_all k members (omega arith) in
        (g.full ∙ rw e, rw e at g.pushed)

-- ---- of the legs from a member
from_append : (s : List ℕ) (t : Directed) (i : ℕ) (xs ys : List ℕ) → savings_from s t i (xs ++ ys) ≡ savings_from s t i xs ++ savings_from s t i ys
unfolding savings_from
from_append s t i [] ys = refl
from_append s t i (j ∷ js) ys = go (saves s t i j) (from_append s t i js ys)
  where
    go : (b : Bool) → savings_from s t i (js ++ ys) ≡ savings_from s t i js ++ savings_from s t i ys
        → kept_if b (saving_of s t.common i j) (savings_from s t i (js ++ ys)) ≡ kept_if b (saving_of s t.common i j) (savings_from s t i js) ++ savings_from s t i ys
    go true e = ap (◌∷◌ (saving_of s t.common i j)) e
    go false e = e

module _
    (s : List ℕ)
    (t : Directed)
    (i : ℕ)
    {members : List ℕ}
    {from₀ to₀ : List ℕ}
    {values₀ : List Float}
    {entries₀ : List ℕ}
    {at : ℕ}
    {from to : List ℕ}
    {values : List Float}
    {entries : List ℕ}
    {end k : ℕ}
    (g : Gathering (savings_from s t i) members from₀ to₀ values₀ entries₀ at from to values entries end k)
    (h : k < length members)
  where
    grown : savings_from s t i (take (k + 1) members) ≡ savings_from s t i (take k members) ++ savings_from s t i (get_or members k 0 ∷ [])
    grown = ap (savings_from s t i) (take_more members k 0 h) ∙ from_append s t i (take k members) (get_or members k 0 ∷ [])

    pub from_fits : (most : ℕ) → at + length members ≤ most → end + 1 ≤ most
    from_fits most r = omega (arith, from_few s t i (take k members), length-take-le k members (omega (arith, h)), h, g.full, r)

    pub from_skips : saves s t i (get_or members k 0) ≡ false → Gathering (savings_from s t i) members from₀ to₀ values₀ entries₀ at from to values entries end (k + 1)
    unfolding savings_from
    from_skips e =
        skips g h
        (grown ∙ rw e (append-nil (savings_from s t i (take k members))))

    pub from_takes : saves s t i (get_or members k 0) ≡ true
        → (from' to' : List ℕ) (values' : List Float) (entries' : List ℕ) (end' : ℕ)
        → end' ≡ end + 1 → SavingsPushed from to values entries end (saving_of s t.common i (get_or members k 0) ∷ []) from' to' values' entries'
        → Gathering (savings_from s t i) members from₀ to₀ values₀ entries₀ at from' to' values' entries' end' (k + 1)
    unfolding savings_from
    from_takes e from' to' values' entries' end' l u =
        takes g h (saving_of s t.common i (get_or members k 0) ∷ []) (grown ∙ rw e)
        from' to' values' entries' end' l u

-- ---- of all legs
of_append : (s : List ℕ) (t : Directed) (members xs ys : List ℕ) → savings_of s t members (xs ++ ys) ≡ savings_of s t members xs ++ savings_of s t members ys
unfolding savings_of
of_append s t members [] ys = refl
of_append s t members (i ∷ is) ys =
    ap (λ (l : List Saving). savings_from s t i members ++ l) (of_append s t members is ys)
    ∙ sym (append_assoc (savings_from s t i members) (savings_of s t members is) (savings_of s t members ys))

module _
    (s : List ℕ)
    (t : Directed)
    {members : List ℕ}
    {from₀ to₀ : List ℕ}
    {values₀ : List Float}
    {entries₀ from to : List ℕ}
    {values : List Float}
    {entries : List ℕ}
    {end k : ℕ}
    (g : Gathering (savings_of s t members) members from₀ to₀ values₀ entries₀ 0 from to values entries end k)
    (h : k < length members)
  where
    added : savings_of s t members (take (k + 1) members) ≡ savings_of s t members (take k members) ++ savings_from s t (get_or members k 0) members
    unfolding savings_of
    added =
        ap (savings_of s t members) (take_more members k 0 h)
        ∙ of_append s t members (take k members) (get_or members k 0 ∷ [])
        ∙ ap (λ (l : List Saving). savings_of s t members (take k members) ++ l) (append-nil (savings_from s t (get_or members k 0) members))

    -- n members save on n * n legs at most
    pub few : end + length members ≤ length members * length members
    few =
        let l = length-take-le k members (omega (arith, h)) in
        let a : length (savings_of s t members (take k members)) ≤ k * length members = rw l at (savings_few s t members (take k members)) in
        let b = suc-mul k (length members) in
        let d : suc k * length members ≤ length members * length members = mul-le-mul_right (length members) (omega (arith, h)) in
        omega (arith, a, b, d, g.full)

    pub of_fits : length members ≤ 101 → end + length members < 0x10000
    of_fits q = omega (arith, few, square (length members) q)

    pub of_takes : (from' to' : List ℕ) (values' : List Float) (entries' : List ℕ) (end' : ℕ)
        → end' ≡ end + length (savings_from s t (get_or members k 0) members)
        → SavingsPushed from to values entries end (savings_from s t (get_or members k 0) members) from' to' values' entries'
        → Gathering (savings_of s t members) members from₀ to₀ values₀ entries₀ 0 from' to' values' entries' end' (k + 1)
    of_takes from' to' values' entries' end' l u =
        takes g h (savings_from s t (get_or members k 0) members) added
        from' to' values' entries' end' l u
