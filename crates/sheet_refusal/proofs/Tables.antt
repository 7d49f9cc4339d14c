-- A test of every number of a table, along the list of them. Assumes nothing.
use Rattle.std.proofs.Common.{◌≡◌, sym, ◌∙◌, ap, ℕ, ◌+◌, Bool, ◌&&◌, add-zero, add-one, zero-add, arith}
use Prim.Native.Nat.{zero, suc}
use Rattle.std.specs.List.{list_all, range_with_len}
use mathlib.Core.Bool.{and-true, and_assoc}
use Rattle.numbers.specs.All.{all}

all_from : (p : ℕ → Bool) (n i : ℕ) → all p (i + n) ≡ (all p i && list_all p (range_with_len i n))
unfolding all
all_from p zero i = rw add-zero (sym (and-true (all p i)))
all_from p (suc n) i =
    let e : i + suc n ≡ i + 1 + n = omega arith in
    ap (all p) e ∙ all_from p n (i + 1) ∙ rw add-one (and_assoc (all p i) (p i) (list_all p (range_with_len (suc i) n)))

pub all_along : (p : ℕ → Bool) (n : ℕ) → list_all p (range_with_len 0 n) ≡ all p n
unfolding all
all_along p n = sym (rw zero-add at (all_from p n 0))
