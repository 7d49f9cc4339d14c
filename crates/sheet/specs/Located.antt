-- What a sheet that passed its check holds beside its bytes.
use Rattle.std.specs.Prelude.{◌≡◌, ℕ, ◌*◌, List}
use Rattle.sheet.specs.Accepted.{Accepted}
use Rattle.sheet.specs.Fields.{rows_of, times_of, tables_at, entry_at}
use Rattle.sheet.specs.Depots.{depots_of}

-- the number of its rows and that of its depots, and where its distances and its times start
pub record Located (s : List ℕ) (n d first second : ℕ) : Type 0 where
  pub accepted : Accepted s
  pub rows : n ≡ rows_of s
  pub depots : d ≡ depots_of s
  pub distances : first ≡ tables_at s
  pub times : second ≡ entry_at s (times_of s * (rows_of s * rows_of s))
