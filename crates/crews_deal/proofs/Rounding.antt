-- The loop over the rounds: the durations of those so far, rounded up. Assumes nothing.
use Rattle.std.specs.Prelude.{◌≡◌, ℕ, ◌+◌, ◌≤◌, ◌<◌, List, map, length, get_or, set, take}
use Rattle.std.proofs.Common.{refl, sym, ap, ◌∙◌, arith, add-one}
use Rattle.std.proofs.lemmas.List.{map-append}
use Rattle.std.proofs.Math.ListN.{length-set}
use Rattle.std.proofs.Math.Seq.{take-suc, take-suc-set, take_all}
use Rattle.plan_figures.specs.declared.RouteFigures.{RouteFigures}
use Rattle.crews_deal.specs.Wholes.{rounded_up}

-- after k rounds
pub record Rounding (figures : List RouteFigures) (wholes : List ℕ) (k : ℕ) : Type 0 where
  pub long : length wholes ≡ length figures
  pub rounded : take k wholes ≡ map rounded_up (take k figures)

module _ (figures : List RouteFigures) (wholes : List ℕ) where
  pub begins : length wholes ≡ length figures → Rounding figures wholes 0
  begins l = record { long = l; rounded = refl }

  module _ (k : ℕ) (g : Rounding figures wholes k) where
    pub goes_on : (whole : ℕ) (d : RouteFigures) → k < length figures → whole ≡ rounded_up (get_or figures k d) → Rounding figures (set wholes k whole) (k + 1)
    goes_on whole d h e = record {
      long = length-set wholes k whole ∙ g.long;
      rounded = rw (add-one, take-suc-set wholes k whole (omega (arith, g.long)), take-suc figures k d h, map-append, g.rounded, e) refl;
    }

    pub ends : length figures ≤ k → wholes ≡ map rounded_up figures
    ends h = sym (take_all k wholes (omega (arith, g.long))) ∙ g.rounded ∙ ap (map rounded_up) (take_all k figures h)
