-- What a round leaves: with its stops it is as many as there were, and all of them were there. Assumes nothing.
use Rattle.std.specs.Prelude.{Some, None}
use mathlib.Core.Path.{◌≡◌, refl, ◌∙◌}
use Prim.Native.Nat.{ℕ, zero, suc, ◌+◌}
use native.Mathlib.Omega.{arith}
use mathlib.Core.List.{List, [], ◌∷◌}
use lib.ListN.{length, get_or, length-append}
use Rattle.lists.specs.Every.{Every}
use Rattle.lists.specs.Laws.Moved.{without_length, without_every}
use Rattle.nearest_neighbor_choice.specs.StopChoice.{StopChoice}
use Rattle.nearest_neighbor_choice.specs.Heuristic.{Heuristic, Nearest, NearestTw}
use Rattle.nearest_neighbor_choice.specs.Choice.{choose, Trip, empty_trip}
use Rattle.nearest_neighbor.specs.Greedy.{Rule, Extension, extending, extended, extended_by, extend, extend_on, end_of_trip, vehicle_round}
use Rattle.nearest_neighbor.specs.Nearest.{nearest_onward, window_onward}
use Rattle.nearest_neighbor.specs.Laws.Chosen.{Chosen, choose_chosen}
use Rattle.nearest_neighbor.specs.Laws.Permutation.{Extends}
use Rattle.nearest_neighbor.specs.Heuristic.{rule_of}

-- a stop joins a round at its end
pub joins : (s : List ℕ) (depot : ℕ) (h : Heuristic) (index : ℕ) → Extends (rule_of s depot h index)
unfolding rule_of nearest_onward window_onward
joins s depot Nearest index trip i = refl
joins s depot (NearestTw soft) index trip i = refl

stops_at : Extension → ℕ
stops_at g = length (end_of_trip g).stops + length (end_of_trip g).left

module _ (rule : Rule) (extends : Extends rule) where
  grown_long : (trip : Trip) (left : List ℕ) (c : StopChoice) → Chosen (rule.offer trip) left c → stops_at (extended_by rule trip left c) ≡ length trip.stops + length left
  unfolding stops_at
  grown_long trip left None u = refl
  grown_long trip left (Some (j, k)) u =
      let a = without_length left j u.0 in
      let b = length-append trip.stops (get_or left j 0 ∷ []) in
      rw (extends trip (get_or left j 0)) (omega arith)

  grow_long : (g : Extension) → stops_at (extend rule g) ≡ stops_at g
  unfolding extend stops_at
  grow_long (extended trip left) = refl
  grow_long (extending trip left) = grown_long trip left (choose (rule.offer trip) None 0 left) (choose_chosen (rule.offer trip) left)

  grow_on_long : (n : ℕ) (g : Extension) → stops_at (extend_on rule n g) ≡ stops_at g
  unfolding extend_on
  grow_on_long zero g = refl
  grow_on_long (suc n) g = grow_on_long n (extend rule g) ∙ grow_long g

  pub round_long : (depot : ℕ) (left : List ℕ) → length (vehicle_round rule depot left).stops + length (vehicle_round rule depot left).left ≡ length left
  unfolding stops_at
  round_long depot left = grow_on_long (length left) (extending (empty_trip depot) left) ∙ omega arith

module _ (P : ℕ → Type 0) (rule : Rule) where
  grown_every : (trip : Trip) (left : List ℕ) (c : StopChoice) → Every P left → Every P (end_of_trip (extended_by rule trip left c)).left
  grown_every trip left None e = e
  grown_every trip left (Some (j, k)) e = without_every P left j e

  grow_every : (g : Extension) → Every P (end_of_trip g).left → Every P (end_of_trip (extend rule g)).left
  unfolding extend
  grow_every (extended trip left) e = e
  grow_every (extending trip left) e = grown_every trip left (choose (rule.offer trip) None 0 left) e

  grow_on_every : (n : ℕ) (g : Extension) → Every P (end_of_trip g).left → Every P (end_of_trip (extend_on rule n g)).left
  unfolding extend_on
  grow_on_every zero g e = e
  grow_on_every (suc n) g e = grow_on_every n (extend rule g) (grow_every g e)

  pub round_every : (depot : ℕ) (left : List ℕ) → Every P left → Every P (vehicle_round rule depot left).left
  round_every depot left e = grow_on_every (length left) (extending (empty_trip depot) left) e
