-- Lists that ascend, and that the numbers of a run which a test keeps do. Assumes nothing.
use Rattle.std.specs.Prelude.{ℕ, ◌+◌, ◌<◌, zero, suc, Bool, true, false, List}
use Rattle.std.proofs.Common.{arith}
use Rattle.lists.specs.Every.{Every}
use Rattle.lists.specs.Filter.{keep_if, filtered}
use Rattle.lists.specs.Ascending.{Ascending}

keep_every : (P : ℕ → Type 0) (b : Bool) (i : ℕ) (xs : List ℕ) → P i → Every P xs → Every P (keep_if b i xs)
keep_every P true i xs p e = (p, e)
keep_every P false i xs p e = e

keep_ascending : (b : Bool) (i : ℕ) (xs : List ℕ) → Every (λ (x : ℕ). i < x) xs → Ascending xs → Ascending (keep_if b i xs)
keep_ascending true i xs e a = (e, a)
keep_ascending false i xs e a = a

those_above : (p : ℕ → Bool) (n i y : ℕ) → y < i → Every (λ (x : ℕ). y < x) (filtered p n i)
unfolding filtered
those_above p zero i y h = tt
those_above p (suc n) i y h = keep_every (λ (x : ℕ). y < x) (p i) i (filtered p n (i + 1)) h (those_above p n (i + 1) y (omega arith))

pub those_ascending : (p : ℕ → Bool) (n i : ℕ) → Ascending (filtered p n i)
unfolding filtered
those_ascending p zero i = tt
those_ascending p (suc n) i = keep_ascending (p i) i (filtered p n (i + 1)) (those_above p n (i + 1) i (omega arith)) (those_ascending p n (i + 1))
