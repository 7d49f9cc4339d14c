-- The tables of savings as they fill. Assumes nothing.
use mathlib.Core.Path.{◌≡◌, sym, ap, ◌∙◌}
use Prim.Native.Nat.{ℕ, zero, suc, ◌+◌, ◌≤◌}
use native.Mathlib.Nat.{zero-add, add-zero, suc-add, add_assoc}
use native.Mathlib.Omega.{arith}
use mathlib.Core.List.{List, [], ◌∷◌, ◌++◌, append_assoc}
use lib.ListN.{length, take, set, length-append}
use lib.Ieee.{Float}
use Rattle.std.proofs.lemmas.List.{take_more_set, map-append}
use Rattle.clarke_wright_savings.specs.Savings.{Saving, values_of, numbered}
use Rattle.clarke_wright_savings.specs.Listed.{froms_of, tos_of, Space, SavingsPushed, SavingsAsLong}

-- ---- one saving
-- tables that are as long as they were have the room that they had
pub room_kept : {from to : List ℕ} {values : List Float} {entries from' to' : List ℕ} {values' : List Float} {entries' : List ℕ} → SavingsAsLong from to values entries from' to' values' entries'
    → (n : ℕ) → Space from to values entries n → (m : ℕ) → m ≤ n → Space from' to' values' entries' m
room_kept k n p m h = record {
  starts = omega (arith, k.starts, p.starts, h);
  ends = omega (arith, k.ends, p.ends, h);
  saved = omega (arith, k.saved, p.saved, h);
  placed = omega (arith, k.placed, p.placed, h);
}

module _ (from to : List ℕ) (values : List Float) (entries : List ℕ) (at : ℕ) (h : Space from to values entries (at + 1)) where
  pub pushes : (x : Saving) → SavingsPushed from to values entries at (x ∷ []) (set from at x.from) (set to at x.to) (set values at x.value) (set entries at at)
  unfolding numbered
  pushes x = record {
    starts = take_more_set from at x.from (omega (arith, h.starts));
    ends = take_more_set to at x.to (omega (arith, h.ends));
    saved = take_more_set values at x.value (omega (arith, h.saved));
    placed = take_more_set entries at at (omega (arith, h.placed));
  }

-- ---- savings after savings
numbered_append : (m n k : ℕ) → numbered (m + n) k ≡ numbered m k ++ numbered n (k + m)
unfolding numbered
numbered_append zero n k = rw (zero-add n, add-zero k)
numbered_append (suc m) n k =
    let e : k + 1 + m ≡ k + suc m = omega arith in
    ap (λ (i : ℕ). numbered i k) (suc-add m n) ∙ ap (◌∷◌ k) (numbered_append m n (k + 1) ∙ ap (λ (i : ℕ). numbered m (k + 1) ++ numbered n i) e)

-- a table whose front is put down in two parts
module _ {A : Type 0} (a b c us vs : List A) (at m n : ℕ) where
  fronts : take (at + m) b ≡ take at a ++ us → take (at + m + n) c ≡ take (at + m) b ++ vs → take (at + (m + n)) c ≡ take at a ++ (us ++ vs)
  fronts g h = ap (λ (i : ℕ). take i c) (sym (add_assoc at m n)) ∙ h ∙ ap (λ (l : List A). l ++ vs) g ∙ append_assoc (take at a) us vs

module _
    (from to : List ℕ)
    (values : List Float)
    (entries : List ℕ)
    (at : ℕ)
    (xs : List Saving)
    (from' to' : List ℕ)
    (values' : List Float)
    (entries' : List ℕ)
    (g : SavingsPushed from to values entries at xs from' to' values' entries')
    (ys : List Saving)
    (from'' to'' : List ℕ)
    (values'' : List Float)
    (entries'' : List ℕ)
    (h : SavingsPushed from' to' values' entries' (at + length xs) ys from'' to'' values'' entries'')
  where
    many : length (xs ++ ys) ≡ length xs + length ys
    many = length-append xs ys

    pub pushes_on : SavingsPushed from to values entries at (xs ++ ys) from'' to'' values'' entries''
    pushes_on = record {
      starts = rw (many, map-append (λ (x : Saving). x.from) xs ys) (fronts from from' from'' (froms_of xs) (froms_of ys) at (length xs) (length ys) g.starts h.starts);
      ends = rw (many, map-append (λ (x : Saving). x.to) xs ys) (fronts to to' to'' (tos_of xs) (tos_of ys) at (length xs) (length ys) g.ends h.ends);
      saved = rw (many, map-append (λ (x : Saving). x.value) xs ys) (fronts values values' values'' (values_of xs) (values_of ys) at (length xs) (length ys) g.saved h.saved);
      placed = rw (many, numbered_append (length xs) (length ys) at) (fronts entries entries' entries'' (numbered (length xs) at) (numbered (length ys) (at + length xs)) at (length xs) (length ys) g.placed h.placed);
    }
