-- The loops over the places of a round and over the stops unrouted. Assumes nothing.
use Rattle.std.specs.Prelude.{None}
use mathlib.Core.Path.{◌≡◌, sym, ap, ◌∙◌}
use Prim.Native.Nat.{ℕ, ◌+◌, ◌≤◌, ◌<◌}
use native.Mathlib.Numerals.{add-one}
use native.Mathlib.Omega.{arith}
use mathlib.Core.List.{List, [], ◌∷◌}
use lib.ListN.{length, get_or, drop}
use lib.Seq.{drop-cons, drop-length}
use Rattle.lists.specs.Laws.Every.{every_of}
use Rattle.sheet.specs.Fields.{rows_of}
use Rattle.sheet.specs.Values.{demand_of}
use Rattle.sheet.specs.Laws.Finite.{demand_bounded}
use Rattle.constructive.specs.Load.{load_of}
use Rattle.constructive.specs.declared.terms.Terms.{Terms}
use Rattle.constructive.proofs.Loading.{load_few}
use Rattle.insertion.specs.Choice.{Choice}
use Rattle.insertion.specs.declared.place.Tried.{Tried}
use Rattle.insertion.specs.Trial.{Trial, Joinable}
use Rattle.insertion.proofs.Trying.{joins}
use Rattle.solomon_i1_judging.specs.declared.Figures.{Figures}
use Rattle.solomon_i1_judging.specs.Choice.{try_stop, try_stops}
use Rattle.solomon_i1_judging.specs.Figures.{figures_of}

-- ---- one stop
module _ (s : List ℕ) (t : Terms) (route : List ℕ) (row : ℕ) (figures : Figures) (told : figures ≡ figures_of s t route) (demand : ℕ) (e : demand ≡ demand_of s row) where
  with_stop_lem : figures.load + demand ≡ load_of s route + demand_of s row
  with_stop_lem = ap (λ (f : Figures). f.load + demand) told ∙ ap (λ (n : ℕ). load_of s route + n) e

  pub load_fits : Joinable s t route (row ∷ []) → figures.load + demand ≤ 101000000
  load_fits ok =
      let few = load_few s ok.round.sheet route (every_of (λ (i : ℕ). i < rows_of s) 0 route ok.round.row) in
      omega (arith, with_stop_lem, few, ok.room, demand_bounded s ok.round.sheet row (joins s t route row ok))

-- ---- over the stops
pub record Stopping (s : List ℕ) (t : Terms) (route left : List ℕ) (tried : Tried) (trial : List ℕ) (j end : ℕ) : Type 0 where
  pub last : end ≡ length left
  pub within : j ≤ end
  pub holds : Trial route (get_or trial tried.at 0) tried.at trial
  pub same : try_stops s t route None 0 left ≡ try_stops s t route tried.choice j (drop j left)

module _ (s : List ℕ) (t : Terms) (route left : List ℕ) (tried : Tried) (trial : List ℕ) (j end : ℕ) (g : Stopping s t route left tried trial j end) where
  pub stops : (tried' : Tried) (trial' : List ℕ) → j < end → tried'.choice ≡ try_stop s t route tried.choice j (get_or left j 0) → Trial route (get_or trial' tried'.at 0) tried'.at trial'
      → Stopping s t route left tried' trial' (j + 1) end
  unfolding try_stops
  stops tried' trial' h e f =
      let k : j < length left = omega (arith, g.last) in
      record {
        last = g.last;
        within = omega arith;
        holds = f;
        same =
            g.same
            ∙ ap (try_stops s t route tried.choice j) (drop-cons left j 0 k)
            ∙ ap (λ (n : ℕ). try_stops s t route (try_stop s t route tried.choice j (get_or left j 0)) (j + 1) (drop n left)) (sym (add-one j))
            ∙ ap (λ (c : Choice). try_stops s t route c (j + 1) (drop (j + 1) left)) (sym e);
      }

  pub stopped : end ≤ j → tried.choice ≡ try_stops s t route None 0 left
  unfolding try_stops
  stopped h = let e : j ≡ length left = omega (arith, g.last, g.within) in sym (g.same ∙ rw (e, drop-length left))
