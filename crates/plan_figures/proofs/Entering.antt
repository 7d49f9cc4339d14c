-- A plan let in at the door, with its rounds' figures. Assumes nothing.
use Prim.Native.Nat.{ℕ, ◌≤◌}
use native.Mathlib.Omega.{arith}
use mathlib.Core.Path.{◌≡◌, ◌∙◌}
use mathlib.Core.Bool.{Bool}
use mathlib.Core.List.{List, ◌++◌}
use Rattle.std.specs.Prelude.{map}
use Rattle.std.proofs.lemmas.List.{length-map}
use lib.ListN.{length, take}
use lib.Seq.{length-take-le, take-append_seam}
use Rattle.sheet.specs.Fields.{most_rows}
use Rattle.constructive.specs.Outcome.{rounds_in, outcome_in}
use Rattle.constructive.specs.Laws.Stored.{length_rounds}
use Rattle.constructive.proofs.InTables.{rounds_of_lem}
use Rattle.plan_reader.specs.Reading.{stop_count}
use Rattle.plan_door.specs.Door.{LetIn}
use Rattle.plan_figures.specs.declared.RouteFigures.{RouteFigures}
use Rattle.plan_figures.specs.Walked.{route_figures, Walked}

-- what was written at the start of the table
pub first : (n : ℕ) (figures rest : List RouteFigures) → length figures ≡ n → take n (figures ++ rest) ≡ figures
first n figures rest e = rw (← e) (take-append_seam figures rest)

module _ (s plan : List ℕ) (room one : Bool) (stops ends vehicles : List ℕ) (n : ℕ) (e : LetIn s plan room one stops ends vehicles n) where
  -- the table has a place for each round
  pub placed : (table : List RouteFigures) → most_rows ≤ length table → length (take n table) ≡ n
  placed table h = length-take-le n table (omega (arith, e.read.tables.few, e.sheet.sized.rows))

  pub walked : (figures : List RouteFigures) → figures ≡ map (route_figures s) (rounds_in stops ends vehicles n 0 0) → Walked s plan room one figures
  unfolding outcome_in
  walked figures f =
      let l : length figures ≡ n = rw (f, length-map) (length_rounds stops ends vehicles n 0 0) in
      record {
        free = e.free;
        sheet = e.sheet;
        right = e.read.right;
        rounds = l ∙ e.read.rounds;
        driven = rw (← e.read.outcome) (rounds_of_lem s stops ends vehicles n (stop_count s) e.read.tables);
        figures = rw (← e.read.outcome) f;
      }
