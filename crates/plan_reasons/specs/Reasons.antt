-- docs/SCOPE.md#why-a-stop-is-set-aside. Request Six: "The zero u16 in the row record becomes a reason for each set-aside stop, and stays zero on others."
use Rattle.std.specs.Prelude.{ℕ, ◌+◌, Bool, true, ◌&&◌, List, [], ◌∷◌, leb}
use Rattle.wire.specs.Bytes.{bytes, u16_at, write}
use Rattle.sheet.specs.Fields.{rows_of}
use Rattle.plan.specs.Plan.{row_record_at}

-- where the reason of a row stands, of n rows
abbrev pub reason_place : ℕ → ℕ → ℕ
reason_place n row = row_record_at n row + 2

-- a plan with the reasons of some rows in it
unfoldable pub with_reasons : List ℕ → (ℕ → ℕ) → List ℕ → List ℕ → List ℕ
with_reasons s why [] plan = plan
with_reasons s why (row ∷ rows) plan = with_reasons s why rows (write plan (reason_place (rows_of s) row) (bytes 2 (why row)))

unfoldable pub reason_at : List ℕ → ℕ → ℕ → ℕ
reason_at plan n row = u16_at plan (reason_place n row)

-- none of theirs above 8
unfoldable pub reasons_right : List ℕ → List ℕ → List ℕ → Bool
reasons_right s plan [] = true
reasons_right s plan (row ∷ rows) = leb (reason_at plan (rows_of s) row) 8 && reasons_right s plan rows
