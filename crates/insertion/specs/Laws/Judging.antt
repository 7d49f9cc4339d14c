-- How a place is judged: what costs no less than the best so far need not be walked, and without soft windows the walk alone decides. Assumes nothing.
use Rattle.std.specs.Prelude.{◌≡◌, ℕ, Bool, cond, List, Float, Some}
use Rattle.std.proofs.Math.Path.{refl}
use Rattle.std.proofs.Math.Bool.{true, false, and-true}
use Rattle.lists.specs.Moved.{inserted}
use Rattle.constructive.specs.declared.terms.Terms.{Terms}
use Rattle.insertion.specs.Choice.{Choice}
use Rattle.insertion.specs.Place.{feasible_in, detour, judged, judge, wins, better_place}

-- ---- whatever the walk says
pub dear_skipped : (c : Choice) (j k : ℕ) (b : Bool) (cost : Float) → wins cost c ≡ false → better_place c j k (judged b cost) ≡ c
dear_skipped c j k true cost e = rw e
dear_skipped c j k false cost e = refl

pub cheap_walked : (c : Choice) (j k : ℕ) (b : Bool) (cost : Float) → wins cost c ≡ true → better_place c j k (judged b cost) ≡ cond b (Some (j, k, cost)) c
cheap_walked c j k true cost e = rw e
cheap_walked c j k false cost e = refl

-- ---- without soft windows
module _ (s : List ℕ) (t : Terms) (route : List ℕ) (row k : ℕ) where
  pub hard_judge : t.soft ≡ false → judge s t route row k ≡ judged (feasible_in s t (inserted k row route)) (detour s t.depot route row k)
  unfolding judge
  hard_judge e = rw (e, and-true (feasible_in s t (inserted k row route)))
