-- What holds of a lone round, and whether anything does. Assumes nothing.
use Rattle.std.specs.Prelude.{◌≡◌, refl, ℕ, Bool, true, false, not, cond, Option, Some, None, is_some, eqb}
use Rattle.std.specs.Bool.{then_some}
use Rattle.std.proofs.Common.{sym, arith, ne_eqb, true≢false}
use Rattle.reason.specs.Told.{FirstReason}
use Rattle.reason.specs.declared.Reason.{Reason}
use Rattle.reason.specs.declared.Reason.TheVariants.{OverDuration}

-- nothing holds exactly at 7
pub none_seven : (r : Option Reason) (n : ℕ) (b : Bool) → is_some r ≡ not b → FirstReason r n → b ≡ eqb n 7
none_seven None n true e f = rw f
none_seven None n false e f = absurd (true≢false (sym e))
none_seven (Some r) n true e f = absurd (true≢false e)
none_seven (Some r) n false e (f, h) = sym (ne_eqb n 7 (λ q. omega arith))

-- what plain nearest neighbour asks last
pub last_asked : (b : Bool) → FirstReason (then_some b OverDuration) (cond b 6 7)
last_asked true = (refl, omega arith)
last_asked false = refl
