-- The rounds so far in the tables that are lent: a slot for each member, whose stops stand from 101 times its number on.
use Rattle.std.specs.Prelude.{◌≡◌, ℕ, zero, suc, ◌+◌, ◌*◌, ◌≤◌, ◌<◌, Bool, true, false, cond, List, [], ◌∷◌, ◌++◌, reverse, ltb, length, get_or, set, take, drop}
use Rattle.lists.specs.Count.{count}
use Rattle.lists.specs.Every.{Every}
use Rattle.wire.specs.Bytes.{write}
use Rattle.sheet.specs.Fields.{rows_of, most_rows}
use Rattle.sheet.specs.Accepted.{Accepted}
use Rattle.sheet.specs.Values.{demand_of}
use Rattle.constructive.specs.declared.tables.Filled.{Filled}
use Rattle.constructive.specs.Load.{load_of}
use Rattle.clarke_wright_savings.specs.Savings.{route_at, slot_of}
use Rattle.clarke_wright_savings.specs.Routes.{count_in_routes}

-- ---- the rounds that the tables hold
abbrev pub slot_at : List ℕ → List ℕ → ℕ → List ℕ
slot_at cells lens k = take (get_or lens k 0) (drop (k * most_rows) cells)

-- the n slots from k on
unfoldable pub slots_from : List ℕ → List ℕ → ℕ → ℕ → List (List ℕ)
slots_from cells lens zero k = []
slots_from cells lens (suc n) k = slot_at cells lens k ∷ slots_from cells lens n (k + 1)

abbrev pub slots_in : ℕ → List ℕ → List ℕ → List (List ℕ)
slots_in n cells lens = slots_from cells lens n 0

-- how many stops they have
unfoldable pub routed_stops : List (List ℕ) → ℕ
routed_stops [] = 0
routed_stops (route ∷ routes) = length route + routed_stops routes

-- rounds of rows of a sheet, on which each stands once at most
pub record Routes (s : List ℕ) (routes : List (List ℕ)) : Type 0 where
  pub sheet : Accepted s
  pub few : routed_stops routes ≤ most_rows
  pub once : (x : ℕ) → count_in_routes x routes ≤ 1
  pub rows : Every (Every (λ (i : ℕ). i < rows_of s)) routes

-- room for n slots, and for each row's slot (a clause: n members take less room than the most)
pub record Roomy (n : ℕ) (cells lens loads slots : List ℕ) : Type 0 where
  pub most : n ≤ most_rows
  pub celled : n * most_rows ≤ length cells
  pub measured : most_rows ≤ length lens
  pub loaded : most_rows ≤ length loads
  pub known : most_rows ≤ length slots

-- n slots: how long each is, what it carries, and the slot of each row; n is that of a row which has no round
-- (a clause, not an invariant: it is a fact of the slots, the sheet and n, and it does not hold while a slot is written)
pub record Slotted (s : List ℕ) (n : ℕ) (cells lens loads slots : List ℕ) : Type 0 where
  pub room : Roomy n cells lens loads slots
  pub routes : Routes s (slots_in n cells lens)
  pub long : (k : ℕ) → k < n → get_or lens k 0 ≡ length (route_at (slots_in n cells lens) k)
  pub load : (k : ℕ) → k < n → get_or loads k 0 ≡ load_of s (route_at (slots_in n cells lens) k)
  pub slot : (x : ℕ) → x < most_rows → get_or slots x 0 ≡ slot_of x (slots_in n cells lens)

-- tables that are as long as they were (a clause: of a slice in a struct that is lent a proof knows no length once a call took it)
pub record SlotsAsLong (cells lens loads slots cells' lens' loads' slots' : List ℕ) : Type 0 where
  pub celled : length cells' ≡ length cells
  pub measured : length lens' ≡ length lens
  pub loaded : length loads' ≡ length loads
  pub known : length slots' ≡ length slots

-- a slot with one stop: its row and number, the tables before, the tables after
pub record RouteStarted (s : List ℕ) (row k : ℕ) (cells lens loads slots cells' lens' loads' slots' : List ℕ) : Type 0 where
  pub celled : cells' ≡ set cells (most_rows * k) row
  pub measured : lens' ≡ set lens k 1
  pub loaded : loads' ≡ set loads k (demand_of s row)
  pub known : slots' ≡ set slots row k

-- ---- one merge
-- a round as it is, or reversed
abbrev pub or_reversed : Bool → List ℕ → List ℕ
or_reversed false route = route
or_reversed true route = reverse route

-- two slots' stops, each round as it is or reversed
abbrev pub end_to_end : Bool → Bool → List ℕ → List ℕ → List ℕ
end_to_end back forth into from = or_reversed back into ++ or_reversed forth from

-- the tables before, the slot that takes another's stops, and has these then, the tables after
pub record SlotTaken (cells lens loads slots : List ℕ) (into from : ℕ) (stops cells' lens' loads' slots' : List ℕ) : Type 0 where
  pub celled : cells' ≡ write cells (into * most_rows) stops
  pub measured : lens' ≡ set (set lens into (length stops)) from 0
  pub loaded : loads' ≡ set (set loads into (get_or loads into 0 + get_or loads from 0)) from 0
  pub known : (x : ℕ) → x < length slots → get_or slots' x 0 ≡ cond (ltb 0 (count x (slot_at cells lens from))) into (get_or slots x 0)

-- ---- the rounds laid down
-- room for them behind what the tables of a plan hold
pub record Laying (n : ℕ) (cells lens stops ends vehicles : List ℕ) (f : Filled) : Type 0 where
  pub most : n ≤ most_rows
  pub celled : n * most_rows ≤ length cells
  pub measured : n ≤ length lens
  pub long : (k : ℕ) → k < n → get_or lens k 0 ≤ most_rows
  pub rounds : f.rounds ≤ f.routed
  pub few : f.routed + routed_stops (slots_in n cells lens) ≤ most_rows
  pub stopped : f.routed + routed_stops (slots_in n cells lens) ≤ length stops
  pub ended : f.routed + routed_stops (slots_in n cells lens) ≤ length ends
  pub driven : f.routed + routed_stops (slots_in n cells lens) ≤ length vehicles
