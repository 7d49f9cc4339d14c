-- docs/SCOPE.md#the-methods. Document 01, "sweep.rs": stops by their angle, packed into rounds in that order. "Stops set aside keep angle order."
use Rattle.std.specs.Prelude.{ℕ, ◌+◌, Bool, true, false, not, ◌||◌, List, [], ◌∷◌, ◌++◌, ltb}
use Rattle.sorting.specs.Stable.{sorted}
use Rattle.sheet.specs.Values.{demand_of}
use Rattle.constructive.specs.Outcome.{Round, Outcome}
use Rattle.constructive.specs.Load.{load_of}
use Rattle.constructive.specs.declared.terms.Terms.{Terms}
use Rattle.constructive.specs.Terms.{terms_of, route_fits}
use Rattle.sweep.specs.Angle.{sweeps_before}

-- ---- the tests
-- a stop that no round can take, even alone
unfoldable pub unservable : List ℕ → Terms → ℕ → Bool
unservable s t row = ltb t.capacity (demand_of s row) || not (route_fits s t (row ∷ []))

-- time windows and limits close a round the way capacity does; one without stops stays
unfoldable pub closes : List ℕ → Terms → List ℕ → ℕ → Bool
closes s t [] row = false
closes s t (i ∷ is) row = ltb t.capacity (load_of s (i ∷ is) + demand_of s row) || not (route_fits s t ((i ∷ is) ++ (row ∷ [])))

-- ---- the loop over the stops
-- the rounds closed so far, the one being filled, the stops set aside
pub record Swept : Type 0 where
  pub closed : List Round
  pub route : List ℕ
  pub aside : List ℕ

abbrev pub swept_round : Terms → List ℕ → Round
swept_round t route = record { vehicle = t.vehicle; stops = route }

-- a stop, by whether it is set aside, and by whether the round closes before it
abbrev pub step : Terms → Bool → Bool → Swept → ℕ → Swept
step t true c x row = record { closed = x.closed; route = x.route; aside = x.aside ++ (row ∷ []) }
step t false true x row = record { closed = x.closed ++ (swept_round t x.route ∷ []); route = row ∷ []; aside = x.aside }
step t false false x row = record { closed = x.closed; route = x.route ++ (row ∷ []); aside = x.aside }

unfoldable pub stepped : List ℕ → Terms → Swept → ℕ → Swept
stepped s t x row = step t (unservable s t row) (closes s t x.route row) x row

unfoldable pub swept_from : List ℕ → Terms → Swept → List ℕ → Swept
swept_from s t x [] = x
swept_from s t x (row ∷ rows) = swept_from s t (stepped s t x row) rows

abbrev pub nothing_swept : Swept
nothing_swept = record { closed = []; route = []; aside = [] }

-- ---- the outcome
-- the last round, where it has stops
abbrev pub last_round : Terms → List ℕ → List Round
last_round t [] = []
last_round t (i ∷ is) = swept_round t (i ∷ is) ∷ []

abbrev pub finished : Terms → Swept → Outcome
finished t x = record { rounds = x.closed ++ last_round t x.route; aside = x.aside }

unfoldable pub swept_by : List ℕ → Terms → List ℕ → Outcome
swept_by s t stops = finished t (swept_from s t nothing_swept stops)

-- "Equal angles keep row order": the members come ascending.
-- "Savings, insertion and sweep use the depot's first vehicle for all rounds": v is its index.
unfoldable pub sweep : List ℕ → ℕ → ℕ → List ℕ → Outcome
sweep s depot v members = swept_by s (terms_of s depot v members) (sorted (sweeps_before s depot) members)
