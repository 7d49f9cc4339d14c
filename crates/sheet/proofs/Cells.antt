-- The entries of the tables lie within the sheet. Assumes nothing.
use mathlib.Core.Path.{◌≡◌, ap}
use Prim.Native.Nat.{ℕ, ◌+◌, ◌*◌, ◌≤◌, ◌<◌}
use native.Mathlib.Nat.{mul-le-mul}
use native.Mathlib.Omega.{arith}
use mathlib.Core.List.{List}
use lib.Dec.{T}
use lib.ListN.{length}
use Rattle.wire.specs.Bytes.{is_number}
use Rattle.sheet.specs.Fields.{rows_of, times_of, entries_of, entry_at}
use Rattle.sheet.specs.Accepted.{Accepted}
use Rattle.sheet.specs.Laws.Finite.{entry_number, entries_split}

pub square : (n : ℕ) → n ≤ 101 → n * n ≤ 10201
square n h = mul-le-mul h h

-- what a read of entry k asks
pub record Entry (s : List ℕ) (k : ℕ) : Type 0 where
  pub within : entry_at s k + 8 ≤ length s
  pub number : T (is_number s (entry_at s k))

entry : (s : List ℕ) → Accepted s → (k : ℕ) → k < entries_of s → Entry s k
entry s a k h = record { within = omega (arith, a.sized.long); number = entry_number s a k h }

-- r entries after entry q
pub entry_after : (s : List ℕ) (q r : ℕ) → entry_at s q + 8 * r ≡ entry_at s (q + r)
entry_after s q r = omega arith

module _ (s : List ℕ) (a : Accepted s) (n r : ℕ) (e : n ≡ rows_of s) (h : r < n * n) where
  area : n * n ≡ rows_of s * rows_of s
  area = ap (λ (i : ℕ). i * i) e

  pub first_entry : Entry s r
  first_entry = entry s a r (omega (arith, area, entries_split s a))

  -- past the distances, where the sheet has times
  pub time_entry : Entry s (times_of s * (rows_of s * rows_of s) + r)
  time_entry = entry s a _ (omega (arith, area, entries_split s a))
