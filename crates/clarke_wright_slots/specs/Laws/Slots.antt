-- The slots one by one. Assumes nothing.
use Rattle.std.specs.Prelude.{◌≡◌, refl, ℕ, zero, suc, ◌+◌, ◌≤◌, ◌<◌, List, [], ◌∷◌, ◌++◌, length}
use Rattle.std.proofs.Common.{sym, ap, ◌∙◌, le_of_suc-le-suc, not-suc-le-zero, add-zero, add-one, arith}
use Rattle.std.proofs.Math.ListN.{get_or-eq_default}
use Rattle.clarke_wright_savings.specs.Savings.{route_at}
use Rattle.clarke_wright_slots.specs.Slots.{slot_at, slots_from, slots_in, routed_stops, Roomy}

length_from : (cells lens : List ℕ) (n k : ℕ) → length (slots_from cells lens n k) ≡ n
unfolding slots_from
length_from cells lens zero k = refl
length_from cells lens (suc n) k = ap suc (length_from cells lens n (k + 1))

pub length_slots : (n : ℕ) (cells lens : List ℕ) → length (slots_in n cells lens) ≡ n
length_slots n cells lens = length_from cells lens n 0

from_at : (cells lens : List ℕ) (n k i : ℕ) → i < n → route_at (slots_from cells lens n k) i ≡ slot_at cells lens (k + i)
unfolding slots_from
from_at cells lens zero k i h = absurd (not-suc-le-zero h)
from_at cells lens (suc n) k zero h = ap (slot_at cells lens) (sym (add-zero k))
from_at cells lens (suc n) k (suc i) h = from_at cells lens n (k + 1) i (le_of_suc-le-suc h) ∙ ap (slot_at cells lens) (omega arith)

pub slots_at : (n : ℕ) (cells lens : List ℕ) (k : ℕ) → k < n → route_at (slots_in n cells lens) k ≡ slot_at cells lens k
slots_at n cells lens k h = from_at cells lens n 0 k h ∙ ap (slot_at cells lens) (omega arith)

-- past them there is none
pub slots_past : (n : ℕ) (cells lens : List ℕ) (k : ℕ) → n ≤ k → route_at (slots_in n cells lens) k ≡ []
slots_past n cells lens k h = get_or-eq_default (slots_in n cells lens) [] (omega (arith, h, length_slots n cells lens))

-- two lists of rounds are the same if they are so slot by slot
pub routes_same : (rs qs : List (List ℕ)) → length rs ≡ length qs → ((k : ℕ) → k < length rs → route_at rs k ≡ route_at qs k) → rs ≡ qs
routes_same [] [] e f = refl
routes_same [] (q ∷ qs) e f = absurd (omega (arith, e))
routes_same (r ∷ rs) [] e f = absurd (omega (arith, e))
routes_same (r ∷ rs) (q ∷ qs) e f = rw (f 0 (omega arith), routes_same rs qs (omega (arith, e)) (λ k h. f (suc k) (omega (arith, h))))

-- the same slots in other tables
pub slots_alike : (n : ℕ) (cells lens cells' lens' : List ℕ) → ((k : ℕ) → k < n → slot_at cells' lens' k ≡ slot_at cells lens k) → slots_in n cells' lens' ≡ slots_in n cells lens
slots_alike n cells lens cells' lens' f =
    routes_same (slots_in n cells' lens') (slots_in n cells lens) (length_slots n cells' lens' ∙ sym (length_slots n cells lens))
    (λ k h. let l : k < n = omega (arith, h, length_slots n cells' lens') in slots_at n cells' lens' k l ∙ f k l ∙ sym (slots_at n cells lens k l))

-- the rounds of the slots with one slot more
from_more : (cells lens : List ℕ) (n k : ℕ) → slots_from cells lens (suc n) k ≡ slots_from cells lens n k ++ (slot_at cells lens (k + n) ∷ [])
unfolding slots_from
from_more cells lens zero k = ap (λ (i : ℕ). slot_at cells lens i ∷ []) (sym (add-zero k))
from_more cells lens (suc n) k = ap (◌∷◌ (slot_at cells lens k)) (from_more cells lens n (k + 1) ∙ ap (λ (i : ℕ). slots_from cells lens n (k + 1) ++ (slot_at cells lens i ∷ [])) (omega arith))

pub slots_more : (n : ℕ) (cells lens : List ℕ) → slots_in (n + 1) cells lens ≡ slots_in n cells lens ++ (slot_at cells lens n ∷ [])
slots_more n cells lens = ap (λ (m : ℕ). slots_in m cells lens) (add-one n) ∙ from_more cells lens n 0 ∙ ap (λ (i : ℕ). slots_in n cells lens ++ (slot_at cells lens i ∷ [])) (omega arith)

-- no round has more stops than all have
pub route_few : (routes : List (List ℕ)) (k : ℕ) → length (route_at routes k) ≤ routed_stops routes
unfolding routed_stops
route_few [] k = omega arith
route_few (route ∷ routes) zero = omega arith
route_few (route ∷ routes) (suc k) = let l = route_few routes k in omega arith

-- room for some slots is room for fewer
pub roomy_within : {m n : ℕ} {cells lens loads slots : List ℕ} → m ≤ n → Roomy n cells lens loads slots → Roomy m cells lens loads slots
roomy_within h room = record {
  most = omega (arith, room.most);
  celled = omega (arith, room.celled);
  measured = room.measured;
  loaded = room.loaded;
  known = room.known;
}
