-- What the rounds of offers leave in the tables that are lent.
use Rattle.std.specs.Prelude.{◌≡◌, ℕ, ◌<◌, List, get_or}
use Rattle.lists.specs.Count.{one, is_in}
use Rattle.sheet.specs.Fields.{rows_of}
use Rattle.multi_depot_offers.specs.ByDepot.{planned_at}

-- the rows of a depot are marked as it turns them down
pub record MarksUpdated (s at marks : List ℕ) (depot : ℕ) (marks' : List ℕ) : Type 0 where
  pub mark : (c : ℕ) → c < rows_of s → get_or at c 0 ≡ depot → get_or marks' c 0 ≡ one (is_in c (planned_at s at).aside)
  pub kept : (c : ℕ) → c < rows_of s → (get_or at c 0 ≡ depot → ⊥) → get_or marks' c 0 ≡ get_or marks c 0

-- as they were
pub record Untouched (at marks stops ends vehicles at' marks' stops' ends' vehicles' : List ℕ) : Type 0 where
  pub stayed : at' ≡ at
  pub marked : marks' ≡ marks
  pub stopped : stops' ≡ stops
  pub ended : ends' ≡ ends
  pub driven : vehicles' ≡ vehicles
