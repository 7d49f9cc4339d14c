-- What one slot's taking over another's stops writes to the tables. Assumes nothing.
use mathlib.Core.Path.{◌≡◌, refl, ap, ◌∙◌}
use Prim.Native.Nat.{ℕ, ◌+◌, ◌-◌, ◌*◌, ◌≤◌, ◌<◌}
use native.Mathlib.Omega.{arith}
use mathlib.Core.Bool.{cond}
use mathlib.Core.List.{List, ◌++◌}
use lib.Dec.{ltb}
use lib.ListN.{length, get_or, set, take, drop, length-set}
use Rattle.lists.specs.Count.{count}
use Rattle.wire.specs.Laws.Bytes.{length_write}
use Rattle.wire.specs.Laws.Overwrite.{put_part}
use Rattle.clarke_wright_slots.specs.Slots.{slot_at, Roomy, SlotTaken, SlotsAsLong}

-- a slot, from where it starts to where it ends
abbrev pub slot_to : List ℕ → List ℕ → ℕ → List ℕ
slot_to cells lens k = take (k * 101 + get_or lens k 0 - k * 101) (drop (k * 101) cells)

to_slot : (cells lens : List ℕ) (k : ℕ) → slot_to cells lens k ≡ slot_at cells lens k
to_slot cells lens k = ap (λ (n : ℕ). take n (drop (k * 101) cells)) (let e : k * 101 + get_or lens k 0 - k * 101 ≡ get_or lens k 0 = omega arith in e)

pub taken : (cells lens loads slots : List ℕ) (into from : ℕ) (stops slots' : List ℕ) → into * 101 + length stops ≤ length cells
    → ((x : ℕ) → x < length slots → get_or slots' x 0 ≡ cond (ltb 0 (count x (slot_to cells lens from))) into (get_or slots x 0))
    → SlotTaken cells lens loads slots into from stops (take (into * 101) cells ++ (stops ++ drop (into * 101 + length stops - into * 101) (drop (into * 101) cells)))
    (set (set lens into (length stops)) from 0) (set (set loads into (get_or loads into 0 + get_or loads from 0)) from 0) slots'
taken cells lens loads slots into from stops slots' room f = record {
  celled = put_part cells (into * 101) (into * 101 + length stops - into * 101) stops (omega arith);
  measured = refl;
  loaded = refl;
  known = λ x h. f x h ∙ ap (λ (l : List ℕ). cond (ltb 0 (count x l)) into (get_or slots x 0)) (to_slot cells lens from);
}

-- it leaves the tables as long as they were
pub taken_long : {cells lens loads slots : List ℕ} {into from : ℕ} {stops cells' lens' loads' slots' : List ℕ} → Roomy (into + 1) cells lens loads slots → length stops ≤ 101
    → length slots' ≡ length slots → SlotTaken cells lens loads slots into from stops cells' lens' loads' slots' → SlotsAsLong cells lens loads slots cells' lens' loads' slots'
taken_long {cells} {lens} {loads} {into = into} {from} {stops} room few known t = record {
  celled = ap length t.celled ∙ length_write cells (into * 101) stops (omega (arith, room.celled, few));
  measured = ap length t.measured ∙ length-set (set lens into (length stops)) from 0 ∙ length-set lens into (length stops);
  loaded = ap length t.loaded ∙ length-set (set loads into (get_or loads into 0 + get_or loads from 0)) from 0 ∙ length-set loads into (get_or loads into 0 + get_or loads from 0);
  known = known;
}
