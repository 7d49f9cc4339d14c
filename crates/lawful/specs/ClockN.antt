-- The clock of two labels over natural numbers: the earliest departure with the rest still to take, and with it taken.
-- It is the Rust's clock where no window is soft, so that a label is its time alone.
use Rattle.std.specs.Prelude.{ℕ, Bool, true, false, ◌||◌, cond, List, [], ◌∷◌, ltb}
use Rattle.lawful.specs.Lawful.{Walk, failed, left, home_of, rests, stop_n, home_n, keeps_maxima, unneeded, plain_walk, home_place}

pub record ClockN : Type 0 where
  pub before : Walk
  pub after : Walk

-- of two rested walks the one that departs earlier, the carried one where both do
unfoldable pub earlier_n : Walk → Walk → Walk
earlier_n failed here = here
earlier_n (left a) failed = left a
earlier_n (left a) (left b) = cond (ltb b a) (left b) (left a)

-- the vehicle at its depot at 0
abbrev pub start_n : ClockN
start_n = record { before = left 0; after = failed }

-- one stop further: the rest skipped, and the rest taken before or here
unfoldable pub push_n : List ℕ → ℕ → ℕ → ℕ → ClockN → ClockN
push_n s v prev i c = record {
  before = stop_n false s v prev i c.before;
  after = earlier_n (stop_n false s v prev i c.after) (stop_n true s v prev i c.before);
}

-- "No rest is needed if the unrested return is ≤ earliest": the duration, of the walks brought home
abbrev pub homeward_n : List ℕ → ℕ → Walk → Walk → Walk
homeward_n s v before after = cond (unneeded s v before) before after

-- the duration of the stops left, from the clock at row `prev` on
unfoldable pub onward_n : List ℕ → ℕ → ClockN → ℕ → List ℕ → Walk
onward_n s v c prev [] = homeward_n s v (home_n s v prev c.before) (home_n s v prev c.after)
onward_n s v c prev (i ∷ is) = onward_n s v (push_n s v prev i c) i is

-- whether the walk, by the clock where the vehicle has a rest, keeps the maxima, or the one with the rest at home does
unfoldable pub feasible_n : List ℕ → ℕ → List ℕ → Bool
feasible_n s v is = cond (rests s v) (keeps_maxima s v is (onward_n s v start_n (home_of s v) is) || home_place s v is) (plain_walk s v is)
