-- Every member stands in the outcome as often as among the members: on one round or set aside. Assumes nothing.
use Rattle.std.specs.Prelude.{◌≡◌, List, [], ◌∷◌, ◌++◌, length, get_or, Some, None}
use Rattle.std.proofs.Math.Path.{refl}
use Rattle.std.proofs.Common.{ap, ◌∙◌}
use Prim.Native.Nat.{ℕ, zero, suc, ◌+◌}
use native.Mathlib.Omega.{arith}
use Rattle.lists.specs.Count.{count}
use Rattle.lists.specs.Laws.Once.{count_append}
use Rattle.lists.specs.Laws.Moved.{without_count}
use Rattle.evaluation.specs.Checks.{has_soft_windows}
use Rattle.constructive.specs.Outcome.{Round, chains, stops_of}
use Rattle.nearest_neighbor_choice.specs.StopChoice.{StopChoice}
use Rattle.nearest_neighbor_choice.specs.Choice.{choose, Trip, empty_trip}
use Rattle.nearest_neighbor.specs.Greedy.{Grown, Rule, Extension, extending, extended, extended_by, extend, extend_on, end_of_trip, vehicle_round, with_stops, greedy}
use Rattle.nearest_neighbor.specs.Laws.Chosen.{Chosen, choose_chosen}
use Rattle.nearest_neighbor.specs.Nearest.{nearest_onward, nearest_rule, nearest_neighbor, window_onward, window_rule, nearest_neighbor_tw}

-- a rule that puts the stop at the end of the round
abbrev pub Extends : Rule → Type 0
Extends rule = (trip : Trip) (i : ℕ) → (rule.onward trip i).stops ≡ trip.stops ++ (i ∷ [])

counted : ℕ → Grown → ℕ
counted x g = count x g.stops + count x g.left

module _ (rule : Rule) (extends : Extends rule) (x : ℕ) where
  grown_by_lem : (trip : Trip) (left : List ℕ) (c : StopChoice) → Chosen (rule.offer trip) left c → counted x (end_of_trip (extended_by rule trip left c)) ≡ count x trip.stops + count x left
  unfolding counted count
  grown_by_lem trip left None u = refl
  grown_by_lem trip left (Some (j, k)) u =
      let a = without_count left j u.0 x in
      let b = count_append x trip.stops (get_or left j 0 ∷ []) in
      rw (extends trip (get_or left j 0)) (omega arith)

  grow_keeps : (g : Extension) → counted x (end_of_trip (extend rule g)) ≡ counted x (end_of_trip g)
  unfolding extend counted
  grow_keeps (extended trip left) = refl
  grow_keeps (extending trip left) = grown_by_lem trip left (choose (rule.offer trip) None 0 left) (choose_chosen (rule.offer trip) left)

  grow_on_keeps : (n : ℕ) (g : Extension) → counted x (end_of_trip (extend_on rule n g)) ≡ counted x (end_of_trip g)
  unfolding extend_on
  grow_on_keeps zero g = refl
  grow_on_keeps (suc n) g = grow_on_keeps n (extend rule g) ∙ grow_keeps g

  round_keeps : (depot : ℕ) (left : List ℕ) → count x (vehicle_round rule depot left).stops + count x (vehicle_round rule depot left).left ≡ count x left
  unfolding counted count
  round_keeps depot left = grow_on_keeps (length left) (extending (empty_trip depot) left) ∙ omega arith

with_stops_lem : (x v : ℕ) (stops : List ℕ) (rounds : List Round) (aside : List ℕ) → count x (chains (with_stops v stops rounds) aside) ≡ count x stops + count x (chains rounds aside)
unfolding chains count
with_stops_lem x v [] rounds aside = omega arith
with_stops_lem x v (row ∷ rows) rounds aside = count_append x (row ∷ rows) (chains rounds aside)

pub greedy_keeps : (rule : ℕ → Rule) → ((v : ℕ) → Extends (rule v)) → (depot : ℕ) (fleet left : List ℕ) (x : ℕ) → count x (stops_of (greedy rule depot fleet left)) ≡ count x left
unfolding greedy chains
greedy_keeps rule e depot [] left x = refl
greedy_keeps rule e depot (v ∷ vs) left x =
    let g = vehicle_round (rule v) depot left in
    let o = greedy rule depot vs g.left in
    with_stops_lem x v g.stops o.rounds o.aside
    ∙ ap (λ (n : ℕ). count x g.stops + n) (greedy_keeps rule e depot vs g.left x)
    ∙ round_keeps (rule v) (e v) x depot left

-- the outcome's stops are a permutation of the members
pub nearest_keeps : (s : List ℕ) (depot : ℕ) (members fleet : List ℕ) (x : ℕ) → count x (stops_of (nearest_neighbor s depot members fleet)) ≡ count x members
unfolding nearest_neighbor nearest_onward
nearest_keeps s depot members fleet x = greedy_keeps (nearest_rule s depot) (λ v trip i. refl) depot fleet members x

pub window_keeps : (s : List ℕ) (depot : ℕ) (members fleet : List ℕ) (x : ℕ) → count x (stops_of (nearest_neighbor_tw s depot members fleet)) ≡ count x members
unfolding nearest_neighbor_tw window_onward
window_keeps s depot members fleet x = greedy_keeps (window_rule s depot (has_soft_windows s depot members)) (λ v trip i. refl) depot fleet members x
