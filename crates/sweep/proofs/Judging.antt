-- The tests of the sweep, as the code makes them. Assumes nothing.
use mathlib.Core.Path.{◌≡◌, refl, sym, ap, ◌∙◌}
use Prim.Native.Nat.{ℕ, ◌+◌, ◌≤◌, ◌<◌}
use native.Mathlib.Omega.{arith}
use mathlib.Core.Bool.{Bool, true, false, not}
use mathlib.Core.List.{List, [], ◌∷◌, ◌++◌}
use lib.ListN.{length, get_or}
use borrow.Author.Tests.{lt-ltb, le-ltb}
use Rattle.sheet.specs.Values.{demand_of}
use Rattle.constructive.specs.declared.terms.Terms.{Terms}
use Rattle.constructive.specs.Load.{load_of}
use Rattle.constructive.specs.Members.{part}
use Rattle.constructive.specs.Terms.{route_fits}
use Rattle.sweep.specs.Sweep.{unservable, closes}
use Rattle.sweep.proofs.Parts.{part_none, part_one, part_more, part_some}

-- ---- a stop alone
module _ (s : List ℕ) (t : Terms) (stops : List ℕ) (at : ℕ) (inside : at < length stops) (d : ℕ) (u : d ≡ demand_of s (get_or stops at 0)) where
  pub too_heavy : t.capacity < d → true ≡ unservable s t (get_or stops at 0)
  unfolding unservable
  too_heavy h = rw (← u, lt-ltb t.capacity d h)

  pub light : d ≤ t.capacity → (b : Bool) → b ≡ route_fits s t (part stops at (at + 1)) → not b ≡ unservable s t (get_or stops at 0)
  unfolding unservable
  light h b e = rw (← u, le-ltb t.capacity d h) (ap not (e ∙ ap (route_fits s t) (part_one stops at inside)))

-- ---- a stop more
module _ (s : List ℕ) (t : Terms) (row : ℕ) where
  stays_none : false ≡ closes s t [] row
  unfolding closes
  stays_none = refl

  full_some : (route : List ℕ) → 0 < length route → t.capacity < load_of s route + demand_of s row → true ≡ closes s t route row
  unfolding closes
  full_some [] l h = absurd (omega arith)
  full_some (i ∷ is) l h = rw (lt-ltb t.capacity (load_of s (i ∷ is) + demand_of s row) h)

  roomy_some : (route : List ℕ) → 0 < length route → load_of s route + demand_of s row ≤ t.capacity → not (route_fits s t (route ++ (row ∷ []))) ≡ closes s t route row
  unfolding closes
  roomy_some [] l h = absurd (omega arith)
  roomy_some (i ∷ is) l h = rw (le-ltb t.capacity (load_of s (i ∷ is) + demand_of s row) h)

module _ (s : List ℕ) (t : Terms) (stops : List ℕ) (start end : ℕ) where
  abbrev route : List ℕ
  route = part stops start end

  abbrev next : ℕ
  next = get_or stops end 0

  pub stays : start ≡ end → false ≡ closes s t route next
  stays e = stays_none s t next ∙ ap (λ (l : List ℕ). closes s t l next) (sym (part_none stops end) ∙ ap (λ (n : ℕ). part stops n end) (sym e))

  module _ (from : start ≤ end) (inside : end < length stops) (some : start ≡ end → ⊥) (load : ℕ) (u : load ≡ load_of s route + demand_of s next) where
    pub full : t.capacity < load → true ≡ closes s t route next
    full h = full_some s t next route (part_some stops start end from (omega arith) some) (omega (arith, u))

    pub roomy : load ≤ t.capacity → (b : Bool) → b ≡ route_fits s t (part stops start (end + 1)) → not b ≡ closes s t route next
    roomy h b e = ap not (e ∙ ap (route_fits s t) (part_more stops start end from inside)) ∙ roomy_some s t next route (part_some stops start end from (omega arith) some) (omega (arith, u))
