-- The stop chosen is one of those left, and it was offered. So what each stop that joins keeps of a round, every round of the outcome has. Assumes nothing.
use Rattle.std.specs.Prelude.{◌≡◌, refl, Bool, true, false, cond, eqb, length, Some, None}
use Rattle.std.proofs.Common.{sym, ◌∙◌, zero-lt-suc, zero-add, add-zero, eq-eqb}
use Rattle.std.proofs.Math.Path.{ap, subst}
use Prim.Native.Nat.{ℕ, zero, suc, ◌+◌, ◌≤◌, ◌<◌, suc-le-suc}
use native.Mathlib.Omega.{arith}
use mathlib.Core.List.{List, [], ◌∷◌}
use Rattle.std.proofs.Math.ListN.{get_or}
use Rattle.lists.specs.Count.{one, count}
use Rattle.lists.specs.Every.{Every}
use Rattle.lists.specs.Laws.Every.{every_map}
use Rattle.lists.specs.Moved.{without}
use Rattle.constructive.specs.Outcome.{Round}
use Rattle.constructive.specs.Laws.Rounds.{OfFleet}
use Rattle.nearest_neighbor_choice.specs.StopChoice.{StopChoice}
use Rattle.nearest_neighbor_choice.specs.Choice.{Offer, out, key, wins_of, better_stop, choose, Trip, empty_trip}
use Rattle.nearest_neighbor.specs.Greedy.{Rule, Extension, extending, extended, extended_by, extend, extend_on, end_of_trip, vehicle_round, with_stops, greedy}

-- ---- one choice
-- an offer that can be taken
abbrev pub Taken : Offer → Type 0
Taken out = ⊥
Taken (key k) = Unit

abbrev pub Chosen : (ℕ → Offer) → List ℕ → StopChoice → Type 0
Chosen offer left None = Unit
Chosen offer left (Some (j, k)) = (j < length left) × Taken (offer (get_or left j 0))

module _ (offer : ℕ → Offer) (left : List ℕ) where
  better_chosen : (c : StopChoice) (j : ℕ) (o : Offer) → j < length left → (Taken o → Taken (offer (get_or left j 0))) → Chosen offer left c → Chosen offer left (better_stop c j o)
  better_chosen c j out h f u = u
  better_chosen c j (key k) h f u = go (wins_of k c)
    where
      go : (t : Bool) → Chosen offer left (cond t (Some (j, k)) c)
      go true = (h, f tt)
      go false = u

  -- over the stops from place j on
  choose_from : (rows : List ℕ) (c : StopChoice) (j : ℕ) → j + length rows ≤ length left → ((k : ℕ) → k < length rows → get_or rows k 0 ≡ get_or left (j + k) 0) → Chosen offer left c
      → Chosen offer left (choose offer c j rows)
  unfolding choose
  choose_from [] c j h e u = u
  choose_from (row ∷ rows) c j h e u =
      let here : row ≡ get_or left j 0 = e 0 (zero-lt-suc (length rows)) ∙ ap (λ (n : ℕ). get_or left n 0) (add-zero j) in
      choose_from rows (better_stop c j (offer row)) (j + 1) (omega arith)
      (λ k l. e (suc k) (suc-le-suc l) ∙ ap (λ (n : ℕ). get_or left n 0) (let n : j + suc k ≡ j + 1 + k = omega arith in n))
      (better_chosen c j (offer row) (omega arith) (λ t. subst (λ (i : ℕ). Taken (offer i)) here t) u)

  pub choose_chosen : Chosen offer left (choose offer None 0 left)
  choose_chosen = choose_from left None 0 (omega arith) (λ k h. ap (λ (n : ℕ). get_or left n 0) (sym (zero-add k))) tt

-- ---- one round
-- what holds of a round so far and the stops left, at its start and with each stop that joins; of the stops left alone; and of a round with stops once it ends
pub record Growing (rule : ℕ → Rule) (depot : ℕ) (Left : List ℕ → Type 0) (Kept : ℕ → Trip → List ℕ → Type 0) (P : Round → Type 0) : Type 0 where
  pub start : (v : ℕ) (left : List ℕ) → Left left → Kept v (empty_trip depot) left
  pub joins : (v : ℕ) (trip : Trip) (left : List ℕ) (j : ℕ) → j < length left → Taken ((rule v).offer trip (get_or left j 0)) → Kept v trip left
      → Kept v ((rule v).onward trip (get_or left j 0)) (without j left)
  pub leaves : (v : ℕ) (trip : Trip) (left : List ℕ) → Kept v trip left → Left left
  pub ends : (v : ℕ) (trip : Trip) (left : List ℕ) → Kept v trip left → 0 < length trip.stops → P (record { vehicle = v; stops = trip.stops })

with_every : (P : Round → Type 0) (v : ℕ) (stops : List ℕ) (rounds : List Round) → (0 < length stops → P (record { vehicle = v; stops = stops })) → Every P rounds → Every P (with_stops v stops rounds)
with_every P v [] rounds f e = e
with_every P v (row ∷ rows) rounds f e = (f (zero-lt-suc (length rows)), e)

module _ (rule : ℕ → Rule) (depot : ℕ) (Left : List ℕ → Type 0) (Kept : ℕ → Trip → List ℕ → Type 0) (P : Round → Type 0) (g : Growing rule depot Left Kept P) where
  abbrev State : ℕ → Extension → Type 0
  State v (extending trip left) = Kept v trip left
  State v (extended trip left) = Kept v trip left

  grown_by_lem : (v : ℕ) (trip : Trip) (left : List ℕ) (c : StopChoice) → Chosen ((rule v).offer trip) left c → Kept v trip left → State v (extended_by (rule v) trip left c)
  grown_by_lem v trip left None u k = k
  grown_by_lem v trip left (Some (j, x)) u k = g.joins v trip left j u.0 u.1 k

  grow_kept : (v : ℕ) (x : Extension) → State v x → State v (extend (rule v) x)
  unfolding extend
  grow_kept v (extending trip left) k = grown_by_lem v trip left (choose ((rule v).offer trip) None 0 left) (choose_chosen ((rule v).offer trip) left) k
  grow_kept v (extended trip left) k = k

  grow_on_kept : (v n : ℕ) (x : Extension) → State v x → State v (extend_on (rule v) n x)
  unfolding extend_on
  grow_on_kept v zero x k = k
  grow_on_kept v (suc n) x k = grow_on_kept v n (extend (rule v) x) (grow_kept v x k)

  ended_left : (v : ℕ) (x : Extension) → State v x → Left (end_of_trip x).left
  ended_left v (extending trip left) k = g.leaves v trip left k
  ended_left v (extended trip left) k = g.leaves v trip left k

  ended_round : (v : ℕ) (x : Extension) → State v x → 0 < length (end_of_trip x).stops → P (record { vehicle = v; stops = (end_of_trip x).stops })
  ended_round v (extending trip left) k h = g.ends v trip left k h
  ended_round v (extended trip left) k h = g.ends v trip left k h

  -- ---- every round
  pub greedy_every : (fleet left : List ℕ) → Left left → Every P (greedy rule depot fleet left).rounds
  unfolding greedy
  greedy_every [] left ok = tt
  greedy_every (v ∷ vs) left ok =
      let x = extend_on (rule v) (length left) (extending (empty_trip depot) left) in
      let k = grow_on_kept v (length left) (extending (empty_trip depot) left) (g.start v left ok) in
      with_every P v (end_of_trip x).stops (greedy rule depot vs (end_of_trip x).left).rounds (ended_round v x k) (greedy_every vs (end_of_trip x).left (ended_left v x k))

-- each of a vehicle of the fleet
pub greedy_fleet : (rule : ℕ → Rule) (depot : ℕ) (fleet left : List ℕ) → Every (OfFleet fleet) (greedy rule depot fleet left).rounds
unfolding greedy count
greedy_fleet rule depot [] left = tt
greedy_fleet rule depot (v ∷ vs) left =
    let g = vehicle_round (rule v) depot left in
    let here : one (eqb v v) ≡ 1 = ap one (eq-eqb v v refl) in
    with_every (OfFleet (v ∷ vs)) v g.stops (greedy rule depot vs g.left).rounds (λ h. omega (arith, here))
    (every_map (OfFleet vs) (OfFleet (v ∷ vs)) (λ r h. omega (arith, h)) (greedy rule depot vs g.left).rounds (greedy_fleet rule depot vs g.left))
