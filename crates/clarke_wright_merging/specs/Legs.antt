-- The savings in the tables that are lent, merged one after another.
use Rattle.std.specs.Prelude.{ℕ, ◌<◌, List, [], ◌∷◌, length, get_or}
use Rattle.sheet.specs.Fields.{rows_of}
use Rattle.clarke_wright_savings.specs.declared.terms.Directed.{Directed}
use Rattle.clarke_wright_savings.specs.Savings.{merge_of, after_merge}

-- legs between rows, at these places
pub record Legs (s from to entries : List ℕ) : Type 0 where
  pub starts : (k : ℕ) → k < length entries → get_or entries k 0 < length from
  pub ends : (k : ℕ) → k < length entries → get_or entries k 0 < length to
  pub from_row : (k : ℕ) → k < length entries → get_or from (get_or entries k 0) 0 < rows_of s
  pub to_row : (k : ℕ) → k < length entries → get_or to (get_or entries k 0) 0 < rows_of s

-- the savings at these places, one after another, from where and to where the tables say
unfoldable pub merged_in : List ℕ → Directed → List ℕ → List ℕ → List ℕ → List (List ℕ) → List (List ℕ)
merged_in s t from to [] routes = routes
merged_in s t from to (e ∷ es) routes = merged_in s t from to es (after_merge routes (merge_of s t routes (get_or from e 0) (get_or to e 0)))
