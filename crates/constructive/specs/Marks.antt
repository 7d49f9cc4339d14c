-- A mark for each row: whether it is one of some stops.
use Rattle.std.specs.Prelude.{◌≡◌, ℕ, ◌≤◌, ◌<◌, List, [], ◌∷◌, length, get_or, set}
use Rattle.lists.specs.Count.{one, is_in}
use Rattle.sheet.specs.Fields.{rows_of}

-- 1 for a row that stands in a list, else 0
-- (that there is a mark for each row is a clause too where the marks are anything: they lie in an array of the most rows)
pub record Marks (s marks aside : List ℕ) : Type 0 where
  pub long : rows_of s ≤ length marks
  pub mark : (c : ℕ) → c < rows_of s → get_or marks c 0 ≡ one (is_in c aside)

-- with some rows more
unfoldable pub marked_by : List ℕ → List ℕ → List ℕ
marked_by marks [] = marks
marked_by marks (row ∷ rows) = marked_by (set marks row 1) rows
