-- The rounds that stand in tables are rounds of the sheet. Assumes nothing.
use mathlib.Core.Path.{◌≡◌, refl}
use Prim.Native.Nat.{ℕ, zero, suc, ◌+◌, ◌-◌, ◌≤◌, ◌<◌}
use native.Mathlib.Numerals.{add-one}
use native.Mathlib.Omega.{arith}
use mathlib.Core.List.{List}
use lib.ListN.{length, take, drop, get_or, length-take, length-drop}
use lib.Seq.{get_or-take, get_or-drop}
use Rattle.sheet.specs.Fields.{rows_of, vehicles_of}
use Rattle.sheet.specs.Accepted.{Accepted}
use Rattle.sheet.specs.Laws.Depots.{depots_few}
use Rattle.sheet.specs.Values.{vehicle_of}
use Rattle.constructive.specs.Outcome.{rounds_in, start_in}
use Rattle.constructive.specs.Tables.{RoundOf, RoundsOf, Tables}

-- ---- a vehicle's depot is a row, where there is a row
home : (s : List ℕ) → Accepted s → 0 < rows_of s → (v : ℕ) → v < vehicles_of s → (vehicle_of s v).depot < rows_of s
unfolding vehicle_of
home s a h v l = let d = (a.vehicle v l).depot in let f = depots_few s h in omega arith

-- ---- the rounds of the tables
module _ (s stops ends vehicles : List ℕ) (n total : ℕ) (ok : Tables s stops ends vehicles n total) where
  -- where the k-th round starts
  pub start_in_lem : (k : ℕ) → k ≤ n → start_in ends k ≤ total
  start_in_lem zero h = omega arith
  start_in_lem (suc k) h = ok.within k h

  module _ (k : ℕ) (h : k < n) where
    abbrev route : List ℕ
    route = take (get_or ends k 0 - start_in ends k) (drop (start_in ends k) stops)

    length_route : length route ≡ get_or ends k 0 - start_in ends k
    length_route = let w = ok.within k h in let l = ok.all in simp (length-take, length-drop) (omega arith)

    pub round_of : RoundOf s (record { vehicle = get_or vehicles k 0; stops = route })
    round_of =
        let w = ok.within k h in
        let l = length_route in
        record {
          vehicle = ok.vehicle k h;
          routed = record {
            sheet = ok.sheet;
            home = home s ok.sheet (omega (arith, ok.few)) (get_or vehicles k 0) (ok.vehicle k h);
            few = omega (arith, ok.most);
            row = λ i j. rw (get_or-take (get_or ends k 0 - start_in ends k) (drop (start_in ends k) stops) i 0 (omega arith), get_or-drop (start_in ends k) stops i 0) (ok.row (start_in ends k + i) (omega arith));
          };
        }

  rounds_from_lem : (m start k : ℕ) → start ≡ start_in ends k → k + m ≡ n → RoundsOf s (rounds_in stops ends vehicles m start k)
  unfolding RoundsOf rounds_in
  rounds_from_lem zero start k e f = tt
  rounds_from_lem (suc m) start k e f = (rw e (round_of k (omega arith)), rounds_from_lem m (get_or ends k 0) (k + 1) (rw add-one) (omega arith))

  pub rounds_of_lem : RoundsOf s (rounds_in stops ends vehicles n 0 0)
  rounds_of_lem = rounds_from_lem n 0 0 refl (omega arith)
