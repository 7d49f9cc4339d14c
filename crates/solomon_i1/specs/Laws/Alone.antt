-- No stop that is set aside makes a round alone. Assumes nothing.
use Rattle.std.specs.Prelude.{◌≡◌, ℕ, ◌≤◌, false, List, [], ◌∷◌, T, leb, length}
use Rattle.std.proofs.Common.{arith, le-leb}
use Rattle.lists.specs.Every.{Every}
use Rattle.sheet.specs.Values.{demand_of, vehicle_of}
use Rattle.constructive.specs.Outcome.{Outcome}
use Rattle.constructive.specs.Rounds.{passes}
use Rattle.constructive.specs.declared.terms.Terms.{Terms}
use Rattle.constructive.specs.Terms.{terms_of}
use Rattle.constructive.specs.Laws.Terms.{Meant, terms_meant}
use Rattle.insertion.specs.Place.{feasible_in}
use Rattle.insertion.specs.Laws.Lawful.{not_both}
use Rattle.solomon_i1.specs.Insertion.{goes_alone, solomon_i1}
use Rattle.solomon_i1.specs.Laws.Planned.{seed_in, Seeds, planned}

-- over capacity alone, or not feasible
abbrev pub NotAlone : List ℕ → ℕ → ℕ → ℕ → Type 0
NotAlone s depot v row = demand_of s row ≤ (vehicle_of s v).capacity → T (passes s depot v (row ∷ [])) → ⊥

module _ (s : List ℕ) (t : Terms) (m : Meant s t) where
  not_alone : (row : ℕ) → goes_alone s t row ≡ false → NotAlone s t.depot t.vehicle row
  not_alone row e l f =
      not_both (leb (demand_of s row) t.capacity) (feasible_in s t (row ∷ [])) e
      (rw (le-leb (demand_of s row) t.capacity (rw m.capacity l)) tt) (rw m.limits f)

  abbrev Refused : List ℕ → Outcome → Type 0
  Refused left o = Every (NotAlone s t.depot t.vehicle) o.aside

  seeds_refused : Seeds s t Refused
  seeds_refused = record { none = tt; aside = λ left h e o k. (not_alone (seed_in s t left) e, k); round = λ left h e o k. k }

pub insertion_alone : (s : List ℕ) (depot v : ℕ) (members : List ℕ) → Every (NotAlone s depot v) (solomon_i1 s depot v members).aside
unfolding solomon_i1 terms_of
insertion_alone s depot v members = let t = terms_of s depot v members in let m = terms_meant s depot v members in planned s t (Refused s t m) (seeds_refused s t m) (length members) members (omega arith)
