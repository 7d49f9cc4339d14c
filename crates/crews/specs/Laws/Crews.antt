-- A right number of crews is one from 1 to 8. Assumes nothing.
use Rattle.std.specs.Prelude.{ℕ, ◌≤◌, T, leb}
use Rattle.std.proofs.Common.{leb→le}
use Rattle.std.specs.Float.Ieee.Fits.{and_l, and_r}
use Rattle.crews.specs.Deal.{crews_right}

pub crews_few : (w : ℕ) → T (crews_right w) → (1 ≤ w) × (w ≤ 8)
unfolding crews_right
crews_few w t = (leb→le 1 w (and_l (leb 1 w) (leb w 8) t), leb→le w 8 (and_r (leb 1 w) (leb w 8) t))
