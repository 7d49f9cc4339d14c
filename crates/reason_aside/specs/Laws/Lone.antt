-- A stop that savings, insertion or sweep set aside has a reason other than 7: its lone round fails. Assumes nothing.
use Rattle.std.specs.Prelude.{◌≡◌, refl, ℕ, ◌≤◌, ◌<◌, Bool, true, false, not, ◌&&◌, ◌||◌, cond, List, [], ◌∷◌, T, leb, eqb}
use Rattle.std.proofs.Common.{sym, ◌∙◌, arith, true≢false, leb-true, le-ltb, ne_eqb}
use Rattle.std.proofs.lemmas.Bool.{or_parts}
use Rattle.lists.specs.Count.{count}
use Rattle.lists.specs.Every.{Every}
use Rattle.lists.specs.Laws.Every.{every_append}
use Rattle.lists.specs.Laws.Permutation.{every_counted}
use Rattle.sorting.specs.Stable.{sorted}
use Rattle.sheet.specs.Fields.{method_of}
use Rattle.sheet.specs.Accepted.{Accepted}
use Rattle.sheet.specs.Values.{demand_of, vehicle_of}
use Rattle.evaluation.specs.Feasible.{route_feasible}
use Rattle.constructive.specs.Rounds.{passes}
use Rattle.constructive.specs.declared.terms.Terms.{Terms}
use Rattle.constructive.specs.Terms.{terms_of, route_fits}
use Rattle.clarke_wright_savings.specs.Savings.{starts_alone, aside_unless, aside_of, directed_of, planned_by, clarke_wright}
use Rattle.solomon_i1.specs.Insertion.{solomon_i1}
use Rattle.solomon_i1.specs.Laws.Alone.{NotAlone, insertion_alone}
use Rattle.sweep.specs.Angle.{sweeps_before}
use Rattle.sweep.specs.Sweep.{unservable, closes, Swept, step, stepped, swept_from, nothing_swept, swept_by, sweep}
use Rattle.reason.specs.Asked.{Lone}
use Rattle.reason.specs.Reason.{over_capacity, walked_reason, lone_reason}
use Rattle.reason.specs.Laws.Walked.{walked_fails}

-- ---- savings
abbrev NoStart : List ℕ → Terms → ℕ → Type 0
NoStart s t row = starts_alone s t row ≡ false

none_start : (s : List ℕ) (t : Terms) (members : List ℕ) → Every (NoStart s t) (aside_of s t members)
unfolding aside_of
none_start s t [] = tt
none_start s t (row ∷ rows) = go (starts_alone s t row) refl (none_start s t rows)
  where
    go : (b : Bool) → starts_alone s t row ≡ b → Every (NoStart s t) (aside_of s t rows) → Every (NoStart s t) (aside_unless b row (aside_of s t rows))
    go true e k = k
    go false e k = (e, k)

-- no stop that savings set aside makes a round alone, whatever its demand
pub savings_alone : (s : List ℕ) (d v : ℕ) (members : List ℕ) (i : ℕ) → 0 < count i (clarke_wright s d v members).aside → passes s d v (i ∷ []) ≡ false
unfolding clarke_wright planned_by directed_of starts_alone terms_of
savings_alone s d v members i h =
    let t = terms_of s d v members in
    (or_parts (not t.constrained) (route_feasible s d t.limits (i ∷ [])) (every_counted (NoStart s t) i (aside_of s t members) (none_start s t members) h)).1

-- ---- sweep
abbrev NoPlace : List ℕ → Terms → ℕ → Type 0
NoPlace s t row = unservable s t row ≡ true

step_out : (s : List ℕ) (t : Terms) (w : Swept) (row : ℕ) (h c : Bool) → unservable s t row ≡ h → Every (NoPlace s t) w.aside → Every (NoPlace s t) (step t h c w row).aside
step_out s t w row true c e k = every_append (NoPlace s t) w.aside (row ∷ []) k (e, tt)
step_out s t w row false true e k = k
step_out s t w row false false e k = k

swept_out : (s : List ℕ) (t : Terms) (w : Swept) (rows : List ℕ) → Every (NoPlace s t) w.aside → Every (NoPlace s t) (swept_from s t w rows).aside
unfolding swept_from stepped
swept_out s t w [] k = k
swept_out s t w (row ∷ rows) k = swept_out s t (stepped s t w row) rows (step_out s t w row (unservable s t row) (closes s t w.route row) refl k)

-- no stop that the sweep sets aside makes a round alone
pub sweep_alone : (s : List ℕ) (d v : ℕ) (members : List ℕ) (i : ℕ) → 0 < count i (sweep s d v members).aside → NotAlone s d v i
unfolding sweep swept_by unservable route_fits terms_of
sweep_alone s d v members i h l f =
    let t = terms_of s d v members in
    let e = every_counted (NoPlace s t) i (swept_from s t nothing_swept (sorted (sweeps_before s d) members)).aside (swept_out s t nothing_swept (sorted (sweeps_before s d) members) tt) h in
    go t.constrained (passes s d v (i ∷ [])) f (rw (le-ltb (vehicle_of s v).capacity (demand_of s i) l) at e)
  where
    go : (c p : Bool) → T p → not (not c || p) ≡ true → ⊥
    go c false f e = f
    go true true f e = true≢false (sym e)
    go false true f e = true≢false (sym e)

-- ---- the reason
module _ (s : List ℕ) (d v i : ℕ) (a : Accepted s) (l : Lone s d v i) where
  -- 7 says that nothing holds of the lone round
  seven_passes : eqb (method_of s) 2 ≡ false → lone_reason s d v i ≡ 7 → (eqb (method_of s) 0 ≡ false → demand_of s i ≤ (vehicle_of s v).capacity) × (passes s d v (i ∷ []) ≡ true)
  unfolding lone_reason over_capacity
  seven_passes m e = go (eqb (method_of s) 0) refl (leb (demand_of s i) (vehicle_of s v).capacity) refl (rw m at e)
    where
      go : (z : Bool) → eqb (method_of s) 0 ≡ z → (c : Bool) → leb (demand_of s i) (vehicle_of s v).capacity ≡ c → ◌≡◌ {A = ℕ} (cond (not z && not c) 2 (walked_reason s d v i)) 7 → (eqb (method_of s) 0 ≡ false → demand_of s i ≤ (vehicle_of s v).capacity) × (passes s d v (i ∷ []) ≡ true)
      go true p c q e = (λ n. absurd (true≢false (sym p ∙ n)), (walked_fails s d v i a l).0 e)
      go false p true q e = (λ n. leb-true (demand_of s i) (vehicle_of s v).capacity q, (walked_fails s d v i a l).0 e)
      go false p false q e = absurd (omega arith)

  alone_fails : eqb (method_of s) 2 ≡ false → eqb (method_of s) 0 ≡ false → NotAlone s d v i → lone_reason s d v i ≡ 7 → ⊥
  alone_fails m n f e = let p = seven_passes m e in f (p.0 n) (rw p.1 tt)

  -- WHAT SAVINGS SET ASIDE has a reason other than 7
  pub lone_fails_savings : method_of s ≡ 0 → (members : List ℕ) → 0 < count i (clarke_wright s d v members).aside → lone_reason s d v i ≡ 7 → ⊥
  lone_fails_savings m members h e = true≢false (sym (seven_passes (ne_eqb (method_of s) 2 (λ n. omega arith)) e).1 ∙ savings_alone s d v members i h)

  -- and what insertion does
  pub lone_fails_insertion : method_of s ≡ 1 → (members : List ℕ) → 0 < count i (solomon_i1 s d v members).aside → lone_reason s d v i ≡ 7 → ⊥
  lone_fails_insertion m members h =
      alone_fails (ne_eqb (method_of s) 2 (λ n. omega arith)) (ne_eqb (method_of s) 0 (λ n. omega arith))
      (every_counted (NotAlone s d v) i (solomon_i1 s d v members).aside (insertion_alone s d v members) h)

  -- and what the sweep does
  pub lone_fails_sweep : method_of s ≡ 4 → (members : List ℕ) → 0 < count i (sweep s d v members).aside → lone_reason s d v i ≡ 7 → ⊥
  lone_fails_sweep m members h = alone_fails (ne_eqb (method_of s) 2 (λ n. omega arith)) (ne_eqb (method_of s) 0 (λ n. omega arith)) (sweep_alone s d v members i h)
