-- What the dealing of rounds asks: their durations in whole units, the crews and a byte for each round.
use Rattle.std.specs.Prelude.{◌≡◌, ℕ, ◌^◌, ◌≤◌, ◌<◌, List, T, length, get_or}
use Rattle.sheet.specs.Fields.{most_rows}
use Rattle.crews.specs.Deal.{crews_right}

pub record Dealable (wholes : List ℕ) (w : ℕ) (deal : List ℕ) : Type 0 where
  pub crews : T (crews_right w)
  pub few : length wholes ≤ most_rows
  pub room : length deal ≡ length wholes
  pub small : (k : ℕ) → k < length wholes → get_or wholes k 0 ≤ 2 ^ 41
