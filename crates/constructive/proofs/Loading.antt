-- The load of a round, summed stop by stop. Assumes nothing.
use mathlib.Core.Path.{◌≡◌, sym, ap, ◌∙◌}
use Prim.Native.Nat.{ℕ, ◌+◌, ◌*◌, ◌≤◌, ◌<◌}
use native.Mathlib.Numerals.{add-one}
use native.Mathlib.Omega.{arith}
use mathlib.Core.List.{List, [], ◌∷◌}
use lib.ListN.{length, get_or, drop}
use lib.Seq.{drop-cons, drop-length}
use Rattle.lists.specs.Every.{Every}
use Rattle.sheet.specs.Fields.{rows_of}
use Rattle.sheet.specs.Values.{demand_of}
use Rattle.sheet.specs.Accepted.{Accepted}
use Rattle.sheet.specs.Laws.Finite.{demand_bounded}
use Rattle.evaluation.specs.Routed.{Routed}
use Rattle.constructive.specs.Load.{load_of}

pub record Loading (s route : List ℕ) (load i : ℕ) : Type 0 where
  pub few : load ≤ 1000000 * i
  pub same : load + load_of s (drop i route) ≡ load_of s route

module _ (s route : List ℕ) (load i : ℕ) (g : Loading s route load i) where
  pub loads : (demand depot : ℕ) → Routed s depot route → i < length route → demand ≡ demand_of s (get_or route i 0) → Loading s route (load + demand) (i + 1)
  unfolding load_of
  loads demand depot ok h e =
      let rest : load_of s (drop i route) ≡ demand_of s (get_or route i 0) + load_of s (drop (i + 1) route) = ap (load_of s) (drop-cons route i 0 h) ∙ ap (λ (n : ℕ). demand_of s (get_or route i 0) + load_of s (drop n route)) (sym (add-one i)) in
      record {
        few = omega (arith, g.few, demand_bounded s ok.sheet (get_or route i 0) (ok.row i h));
        same = omega (arith, rest, g.same);
      }

  pub loaded : length route ≤ i → i ≤ length route → load ≡ load_of s route
  unfolding load_of
  loaded h k =
      let e : i ≡ length route = omega arith in
      let none : load_of s (drop i route) ≡ 0 = rw (e, drop-length route) in
      omega (arith, g.same, none)

-- a bound on a load
pub load_few : (s : List ℕ) → Accepted s → (route : List ℕ) → Every (λ (i : ℕ). i < rows_of s) route → load_of s route ≤ 1000000 * length route
unfolding load_of
load_few s a [] e = omega arith
load_few s a (i ∷ is) e = omega (arith, demand_bounded s a i e.0, load_few s a is e.1)
