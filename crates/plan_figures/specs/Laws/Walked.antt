-- What is so of a plan whose rounds are walked. Assumes nothing.
use Rattle.std.specs.Prelude.{◌≡◌, ℕ, ◌^◌, ◌≤◌, Bool, List, [], ◌∷◌, T, map, leb, length}
use Rattle.std.proofs.Common.{sym, ◌∙◌, subst, arith, leb→le}
use Rattle.std.specs.Float.Ieee.Fits.{and_l}
use Rattle.numbers.specs.Laws.Upto.{Upto}
use Rattle.lists.specs.Every.{Every}
use Rattle.lists.specs.Laws.Every.{every_of}
use Rattle.sheet.specs.Fields.{rows_of, plan_length}
use Rattle.constructive.specs.Outcome.{Round}
use Rattle.constructive.specs.Right.{outcome_right}
use Rattle.plan.specs.Read.{rounds_at, read_plan, plan_right}
use Rattle.plan_door.specs.Laws.Door.{door_accepted}
use Rattle.plan_figures.specs.declared.RouteFigures.{RouteFigures}
use Rattle.plan_figures.specs.Walked.{route_figures, Walked}
use Rattle.plan_figures.specs.Laws.Rounds.{rounds_long, rounds_bounded}

-- figures that are finite, not negative, and at most 2 ^ 41
abbrev pub FiguresBounded : RouteFigures → Type 0
FiguresBounded f = Upto (2 ^ 41) f.distance × Upto (2 ^ 41) f.duration

all_bounded : (s : List ℕ) (rs : List Round) → Every (λ r. FiguresBounded (route_figures s r)) rs → Every FiguresBounded (map (route_figures s) rs)
all_bounded s [] e = tt
all_bounded s (r ∷ rs) e = (e.0, all_bounded s rs e.1)

module _ (s plan : List ℕ) (room one : Bool) (walked : List RouteFigures) (w : Walked s plan room one walked) where
  pub walked_long : length plan ≡ plan_length s
  walked_long = (door_accepted s plan room one w.free).1

  pub walked_few : length walked ≤ rows_of s
  unfolding plan_right
  walked_few = omega (arith, w.rounds, leb→le (rounds_at plan) (rows_of s) (and_l (leb (rounds_at plan) (rows_of s)) (outcome_right s (read_plan s plan)) (subst T (sym w.right) tt)))

  pub walked_read : length (read_plan s plan).rounds ≡ length walked
  unfolding read_plan
  walked_read = rounds_long s plan (rounds_at plan) 0 ∙ sym w.rounds

  pub walked_bounded : Every FiguresBounded walked
  walked_bounded =
      let rounds = (read_plan s plan).rounds in
      rw w.figures (all_bounded s rounds (every_of (λ r. FiguresBounded (route_figures s r)) (record { vehicle = 0; stops = [] }) rounds (rounds_bounded s w.sheet rounds w.driven)))
