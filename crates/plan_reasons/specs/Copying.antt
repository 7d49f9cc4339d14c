-- docs/SCOPE.md#why-a-stop-is-set-aside. Request Six: "The limiter gives 8 to every stop it drops and copies the reason of earlier ones". What it keeps in a table of rows meanwhile.
use Rattle.std.specs.Prelude.{◌≡◌, ℕ, ◌<◌, cond, List, length, get_or}
use Rattle.lists.specs.Count.{is_in}
use Rattle.sheet.specs.Fields.{rows_of}
use Rattle.plan_reasons.specs.Reasons.{reason_at}

-- the reason of a row, with these set aside in the plan
unfoldable pub copied_reason : List ℕ → List ℕ → List ℕ → ℕ → ℕ
copied_reason s plan aside row = cond (is_in row aside) (reason_at plan (rows_of s) row) 8

abbrev pub AllDropped : List ℕ → Type 0
AllDropped why = (row : ℕ) → row < length why → get_or why row 0 ≡ 8

abbrev pub Copied : List ℕ → List ℕ → List ℕ → List ℕ → Type 0
Copied s plan aside why = (row : ℕ) → row < length why → get_or why row 0 ≡ copied_reason s plan aside row
