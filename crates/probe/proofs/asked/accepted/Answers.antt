-- `probe::asked::accepted` meets its contract. Assumes nothing.
use mathlib.Core.Path.{◌≡◌, refl, sym, ◌∙◌}
use lib.Dec.{eqb}
use borrow.Author.Tests.{ne_eqb}
use Rattle.std.specs.Prelude.{Result, Ok, Err, is_ok}
use Rattle.sheet.specs.declared.refusal.Refusal.{Refusal}
use Rattle.sheet.specs.Told.{told}
use Rattle.sheet.specs.Laws.Told.{number_positive}
use native.Mathlib.Omega.{arith}
use Rattle.probe.specs.Promises.{accepted_of}
use Rattle.probe.proofs.Right.{too_short}
use Rattle.probe.proofs.asked.accepted.Goals as goal

pub returns-then-sheet-lt-HEADER_SIZE : goal.returns-then-sheet-lt-HEADER_SIZE
returns-then-sheet-lt-HEADER_SIZE c = sym (too_short c.args.sheet.now c.if-sheet-lt-HEADER_SIZE.true)

-- no refusal is told where a result is right
ok_told : {A : Type 0} (r : Result A Refusal) → is_ok r ≡ eqb (told r) 0
ok_told (Ok x) = refl
ok_told (Err refusal) = sym (ne_eqb _ _ (λ z. omega (arith, number_positive refusal, z)))

pub returns : goal.returns
unfolding accepted_of
returns c = c.is_ok.ensures.value ∙ ok_told c.refusal.result ∙ rw (c.refusal.ensures, c.plan_length.ensures)
