-- docs/SCOPE.md#the-walk-of-a-round. An arrival at a window. The first three stay narrow: besides the proof of the function that each defines, only the laws of specs/Bounds unfold them.
use Rattle.std.specs.Prelude.{Bool, cond, Float}
use Rattle.std.specs.Float.Ieee.{lt}
use Rattle.sheet.specs.Values.{nought}
use Rattle.sheet.specs.declared.customer.Window.{Window}
use Rattle.sheet.specs.declared.customer.Gate.{Gate}
use Rattle.sheet.specs.declared.customer.Gate.TheVariants.{Open, Hard, Soft}
use Rattle.evaluation_clock.specs.Sums.{◌⊕◌, ◌⊖◌}

-- "a window is violated if arrival > due, so arrival = due is in time"
unfoldable pub violated_of : Window → Float → Bool
violated_of w arrival = lt w.due arrival

-- "the Rust rounds a subtraction and a sum": the subtraction. Taking "the later of arrival and ready" instead is a wrong turn.
unfoldable pub waiting_of : Window → Float → Float
waiting_of w arrival = cond (lt arrival w.ready) (w.ready ⊖ arrival) nought

-- the Rust's `(arrival - due).max(0.0)`, where no operand is a NaN or -0
unfoldable pub lateness_of : Window → Float → Float
lateness_of w arrival = cond (lt (arrival ⊖ w.due) nought) nought (arrival ⊖ w.due)

-- arrival, plus the wait
abbrev pub service_start : Gate → Float → Float
service_start Open arrival = arrival
service_start (Hard w) arrival = arrival ⊕ waiting_of w arrival
service_start (Soft w penalty) arrival = arrival ⊕ waiting_of w arrival
