-- Every round of the sweep has a stop, keeps its vehicle's capacity and is feasible. Assumes nothing.
use Rattle.std.specs.Prelude.{◌≡◌, ℕ, ◌+◌, ◌≤◌, ◌<◌, Bool, true, false, not, ◌||◌, T, ltb, length}
use Rattle.std.proofs.Math.Path.{refl}
use Rattle.std.proofs.Common.{sym, zero-lt-suc, arith, true≢false, ltb-false}
use mathlib.Core.List.{List, [], ◌∷◌, ◌++◌}
use Rattle.lists.specs.Every.{Every}
use Rattle.lists.specs.Laws.Every.{every_append, every_map}
use Rattle.sorting.specs.Stable.{sorted}
use Rattle.sorting.specs.Lists.{Each}
use Rattle.sorting.specs.Laws.Stable.{sorted_each}
use Rattle.sheet.specs.Values.{demand_of}
use Rattle.evaluation.specs.declared.limits.RouteLimits.{RouteLimits}
use Rattle.evaluation.specs.Limits.{limits_at}
use Rattle.constructive.specs.Outcome.{Round}
use Rattle.constructive.specs.Load.{load_of}
use Rattle.constructive.specs.Laws.Load.{load_append}
use Rattle.constructive.specs.Laws.Rounds.{OfFleet, of_first}
use Rattle.constructive.specs.Rounds.{Carried, Feasible}
use Rattle.constructive.specs.Laws.Checked.{Known, members_known, stands_feasible}
use Rattle.constructive.specs.declared.terms.Terms.{Terms}
use Rattle.constructive.specs.Terms.{terms_of, route_fits}
use Rattle.sweep.specs.Angle.{sweeps_before}
use Rattle.sweep.specs.Sweep.{unservable, closes, Swept, step, stepped, swept_from, nothing_swept, last_round, finished, swept_by, sweep}

-- ---- the rounds so far
-- a round of rows of which P holds that may stand, its load too
record Stands (s : List ℕ) (t : Terms) (P : ℕ → Type 0) (route : List ℕ) : Type 0 where
  rows : Every P route
  carried : load_of s route ≤ t.capacity
  stands : T (route_fits s t route)

record Closed (s : List ℕ) (t : Terms) (P : ℕ → Type 0) (r : Round) : Type 0 where
  vehicle : r.vehicle ≡ t.vehicle
  some : 0 < length r.stops
  round : Stands s t P r.stops

record Going (s : List ℕ) (t : Terms) (P : ℕ → Type 0) (w : Swept) : Type 0 where
  closed : Every (Closed s t P) w.closed
  filled : 0 < length w.route → Stands s t P w.route

-- a test of two parts that failed
neither : (n m : ℕ) (f : Bool) → (ltb n m || not f) ≡ false → (m ≤ n) × T f
neither n m f = go (ltb n m) refl f
  where
    go : (b : Bool) → ltb n m ≡ b → (f : Bool) → (b || not f) ≡ false → (m ≤ n) × T f
    go true e f h = absurd (true≢false h)
    go false e true h = (ltb-false n m e, tt)
    go false e false h = absurd (true≢false h)

lone_load : (s : List ℕ) (row : ℕ) → load_of s (row ∷ []) ≡ demand_of s row
unfolding load_of
lone_load s row = omega arith

-- only a round with stops closes
pub closes_some : (s : List ℕ) (t : Terms) (route : List ℕ) (row : ℕ) → closes s t route row ≡ true → 0 < length route
unfolding closes
closes_some s t [] row e = absurd (true≢false (sym e))
closes_some s t (i ∷ is) row e = zero-lt-suc (length is)

module _ (s : List ℕ) (t : Terms) (P : ℕ → Type 0) where
  alone : (row : ℕ) → P row → unservable s t row ≡ false → Stands s t P (row ∷ [])
  unfolding unservable
  alone row p e =
      let n = neither t.capacity (demand_of s row) (route_fits s t (row ∷ [])) e in
      record { rows = (p, tt); carried = omega (arith, n.0, lone_load s row); stands = n.1 }

  joined : (route : List ℕ) (row : ℕ) → P row → (0 < length route → Stands s t P route) → unservable s t row ≡ false → closes s t route row ≡ false → Stands s t P (route ++ (row ∷ []))
  unfolding closes
  joined [] row p f e g = alone row p e
  joined (i ∷ is) row p f e g =
      let n = neither t.capacity (load_of s (i ∷ is) + demand_of s row) (route_fits s t ((i ∷ is) ++ (row ∷ []))) g in
      record {
        rows = every_append P (i ∷ is) (row ∷ []) (f (zero-lt-suc (length is))).rows (p, tt);
        carried = omega (arith, n.0, load_append s (i ∷ is) (row ∷ []), lone_load s row);
        stands = n.1;
      }

  step_going : (w : Swept) (row : ℕ) → P row → Going s t P w → (h c : Bool) → unservable s t row ≡ h → closes s t w.route row ≡ c → Going s t P (step t h c w row)
  step_going w row p g true c e f = record { closed = g.closed; filled = g.filled }
  step_going w row p g false true e f =
      let l = closes_some s t w.route row f in
      record {
        closed = every_append (Closed s t P) w.closed _ g.closed (record { vehicle = refl; some = l; round = g.filled l }, tt);
        filled = λ _. alone row p e;
      }
  step_going w row p g false false e f = record { closed = g.closed; filled = λ _. joined w.route row p g.filled e f }

  swept_going : (w : Swept) (rows : List ℕ) → Every P rows → Going s t P w → Going s t P (swept_from s t w rows)
  unfolding swept_from stepped
  swept_going w [] e g = g
  swept_going w (row ∷ rows) e g =
      swept_going (stepped s t w row) rows e.1 (step_going w row e.0 g (unservable s t row) (closes s t w.route row) refl refl)

  finished_closed : (w : Swept) → Going s t P w → Every (Closed s t P) (finished t w).rounds
  finished_closed w g = every_append (Closed s t P) w.closed (last_round t w.route) g.closed (go w.route g.filled)
    where
      go : (route : List ℕ) → (0 < length route → Stands s t P route) → Every (Closed s t P) (last_round t route)
      go [] f = tt
      go (i ∷ is) f = (record { vehicle = refl; some = zero-lt-suc (length is); round = f (zero-lt-suc (length is)) }, tt)

  swept_closed : (rows : List ℕ) → Every P rows → Every (Closed s t P) (swept_by s t rows).rounds
  unfolding swept_by
  swept_closed rows e =
      finished_closed (swept_from s t nothing_swept rows) (swept_going nothing_swept rows e (record { closed = tt; filled = λ h. absurd (omega (arith, h)) }))

-- ---- every round
-- a round of vehicle v
pub record Packed (s : List ℕ) (depot v : ℕ) (r : Round) : Type 0 where
  pub vehicle : r.vehicle ≡ v
  pub feasible : Feasible s depot r

-- what holds of each member holds of each in their order
pub every_each : (P : ℕ → Type 0) (xs : List ℕ) → Every P xs → Each P xs
every_each P [] e = tt
every_each P (x ∷ xs) e = (e.0, every_each P xs e.1)

each_every : (P : ℕ → Type 0) (xs : List ℕ) → Each P xs → Every P xs
each_every P [] e = tt
each_every P (x ∷ xs) e = (e.0, each_every P xs e.1)

module _ (s : List ℕ) (depot v : ℕ) (members : List ℕ) where
  abbrev limits : RouteLimits
  limits = limits_at s v

  packed : (r : Round) → Closed s (terms_of s depot v members) (Known s depot members limits) r → Packed s depot v r
  unfolding terms_of route_fits
  packed r k =
      let f = stands_feasible s depot members limits r.stops k.round.rows k.round.stands in
      record {
        vehicle = k.vehicle;
        feasible = record {
          carried = record { some = k.some; capacity = rw k.vehicle k.round.carried };
          feasible = rw k.vehicle f;
        };
      }

  pub sweep_packed : Every (Packed s depot v) (sweep s depot v members).rounds
  unfolding sweep
  sweep_packed =
      let t = terms_of s depot v members in
      let P = Known s depot members limits in
      let stops = sorted (sweeps_before s depot) members in
      every_map (Closed s t P) (Packed s depot v) packed (swept_by s t stops).rounds
      (swept_closed s t P stops (each_every P stops (sorted_each (sweeps_before s depot) P members (every_each P members (members_known s depot members limits)))))

  pub sweep_feasible : Every (Feasible s depot) (sweep s depot v members).rounds
  sweep_feasible = every_map (Packed s depot v) (Feasible s depot) (λ r k. k.feasible) (sweep s depot v members).rounds sweep_packed

  pub sweep_carried : Every (Carried s) (sweep s depot v members).rounds
  sweep_carried = every_map (Packed s depot v) (Carried s) (λ r k. k.feasible.carried) (sweep s depot v members).rounds sweep_packed

  -- of the first vehicle of a fleet
  pub sweep_fleet : (fleet : List ℕ) → Every (OfFleet (v ∷ fleet)) (sweep s depot v members).rounds
  sweep_fleet fleet = every_map (Packed s depot v) (OfFleet (v ∷ fleet)) (λ r k. of_first v fleet r k.vehicle) (sweep s depot v members).rounds sweep_packed
