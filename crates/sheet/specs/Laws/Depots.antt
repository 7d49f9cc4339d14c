-- Document 01, "models/customer.rs": "Depots are the leading rows marked so; row 0 counts as one even unmarked, and a depot mark after the leading rows means nothing."
use Rattle.std.specs.Prelude.{ℕ, zero, suc, ◌+◌, ◌≤◌, ◌<◌, Bool, true, false, List}
use Rattle.std.proofs.Common.{arith}
use Rattle.sheet.specs.Fields.{rows_of}
use Rattle.sheet.specs.Depots.{is_depot, or_stop, leading, at_least_one, depots_of}

-- ---- they are rows, where there is a row
or_stop_lem : (b : Bool) (m n : ℕ) → m ≤ n → or_stop b m ≤ suc n
or_stop_lem true m n h = omega arith
or_stop_lem false m n h = omega arith

leading_few : (s : List ℕ) (n i : ℕ) → leading s n i ≤ n
unfolding leading
leading_few s zero i = omega arith
leading_few s (suc n) i = or_stop_lem (is_depot s i) (leading s n (i + 1)) n (leading_few s n (i + 1))

at_least_one_lem : (m n : ℕ) → m ≤ n → 0 < n → at_least_one m ≤ n
at_least_one_lem zero n h k = k
at_least_one_lem (suc m) n h k = h

pub depots_few : (s : List ℕ) → 0 < rows_of s → depots_of s ≤ rows_of s
unfolding depots_of
depots_few s h = at_least_one_lem (leading s (rows_of s) 0) (rows_of s) (leading_few s (rows_of s) 0) h
