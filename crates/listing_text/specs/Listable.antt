-- What is listed, and what the reader's tests say of it.
use Rattle.std.specs.Prelude.{◌≡◌, ℕ, ◌≤◌, List, T, length}
use Rattle.listing_text.specs.Listing.{listing_rows}
use Rattle.sheet.specs.Fields.{rows_of, plan_length}
use Rattle.sheet.specs.Accepted.{Sized}
use Rattle.plan.specs.Read.{plan_right}

-- a sheet of "up to 48 rows", and a right plan for it
-- (a clause, not a type: it is a fact of two buffers, of which each is lent as bytes)
pub record Listable (s plan : List ℕ) : Type 0 where
  pub sized : Sized s
  pub rows : rows_of s ≤ listing_rows
  pub long : length plan ≡ plan_length s
  pub right : T (plan_right s plan)
