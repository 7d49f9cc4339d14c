-- The way in which two rounds join, by the slots.
use Rattle.std.specs.Prelude.{ℕ, Bool, true, false, ◌&&◌, cond, List, Some, None}
use Rattle.clarke_wright_savings.specs.Savings.{Merge, apart, joined, route_at}
use Rattle.clarke_wright_savings.specs.Routes.{Slots}
use Rattle.clarke_wright_slots.specs.Slots.{end_to_end}
use Rattle.clarke_wright_joining.specs.Way.{Way}

-- what a way of joining makes of the rounds
abbrev pub meant : List (List ℕ) → Way → Merge
meant routes None = apart
meant routes (Some (into, from, back, forth)) = joined into from (end_to_end back forth (route_at routes into) (route_at routes from))

-- the way for i in slot a and j in slot b, each first or last there
abbrev pub way_of : Bool → Bool → Bool → Bool → Bool → ℕ → ℕ → Way
way_of directed iFirst iLast jFirst jLast a b =
    cond (iLast && jFirst) (Some (a, b, false, false))
    (cond directed None
    (cond (jLast && iFirst) (Some (b, a, false, false))
    (cond (iLast && jLast) (Some (a, b, false, true))
    (cond (iFirst && jFirst) (Some (a, b, true, false)) None))))

-- the slots that a way joins
abbrev pub WaySlots : List (List ℕ) → Way → Type 0
WaySlots routes None = Unit
WaySlots routes (Some (into, from, back, forth)) = Slots routes into from
