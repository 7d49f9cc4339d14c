-- What the code that judges insertions is told of a sheet's windows, and the terms by which it judges the rounds of a vehicle.
use Rattle.std.specs.Prelude.{◌≡◌, ℕ, ◌<◌, false, not, ◌||◌, List}
use Rattle.std.specs.Float.{inf}
use Rattle.sheet.specs.Fields.{rows_of, most_rows}
use Rattle.sheet.specs.Accepted.{Accepted}
use Rattle.sheet.specs.Values.{vehicle_of}
use Rattle.evaluation.specs.Limits.{limits_at, is_unlimited}
use Rattle.constructive.specs.Unchecked.{Windowless}
use Rattle.constructive.specs.declared.terms.Terms.{Terms}
use Rattle.constructive.specs.Tables.{Tables}
use Rattle.insertion.specs.Choice.{Choice}
use Rattle.insertion.specs.Place.{detour, wins}
use Rattle.fleet_cheapest.specs.declared.Windows.{Windows}

-- no window means no soft one, and that no row has any
-- (a clause: of sheet and windows, which do not hold the sheet)
pub record WindowsOf (s : List ℕ) (w : Windows) : Type 0 where
  pub sheet : Accepted s
  pub hard : w.any ≡ false → w.soft ≡ false
  pub windowless : w.any ≡ false → (row : ℕ) → row < rows_of s → Windowless s row

-- no stop goes alone here, so that costs without end
unfoldable pub terms_at : List ℕ → Windows → ℕ → Terms
terms_at s w v = record {
  depot = 0;
  vehicle = v;
  constrained = w.any || not (is_unlimited (limits_at s v));
  soft = w.soft;
  capacity = (vehicle_of s v).capacity;
  fixed = inf false;
  limits = limits_at s v;
}

-- none of the first n places wins over the best so far
abbrev pub Unwon : List ℕ → List ℕ → ℕ → Choice → ℕ → Type 0
Unwon s route row c n = (k : ℕ) → k < n → wins (detour s 0 route row k) c ≡ false

-- tables of n rounds, none of them so long that a stop more is too many
pub record RoomToTry (s stops ends vehicles : List ℕ) (n : ℕ) : Type 0 where
  pub total : ℕ
  pub tables : Tables s stops ends vehicles n total
  pub few : total < most_rows
