-- The clock of two labels decides whether a round has a lawful schedule. Assumes nothing.
use Rattle.std.specs.Prelude.{◌≡◌, refl, ℕ, Bool, true, false, ◌&&◌, ◌||◌, List, T, length}
use Rattle.std.proofs.Common.{sym, ◌∙◌}
use Rattle.std.proofs.Math.Path.{ap}
use Rattle.std.proofs.Math.Bool.{cond}
use Rattle.lawful.specs.Lawful.{Walk, left, home_of, rests, keeps_maxima, unneeded, duration_n, plain_walk, some_place, home_place, lawful}
use Rattle.lawful.specs.ClockN.{start_n, onward_n, feasible_n}
use Rattle.lawful.specs.Laws.Order.{walk_failed}
use Rattle.lawful.specs.Laws.Places.{any_place, unrested_keeps, some_any, onward_places}

-- where no rest is needed, trying the places adds nothing
chosen : (needless plain any : Bool) → (T any → T plain) → (needless && plain || any) ≡ cond needless plain any
chosen true true any f = refl
chosen true false true f = absurd (f tt)
chosen true false false f = refl
chosen false plain any f = refl

module _ (s : List ℕ) (v : ℕ) where
  rested_decides : (is : List ℕ) →
      (unneeded s v (duration_n s v 0 is) && plain_walk s v is || some_place s v is (length is))
      ≡ keeps_maxima s v is (onward_n s v start_n (home_of s v) is)
  rested_decides is =
      let any = any_place s v is (left 0) (home_of s v) is in
      let needless = unneeded s v (duration_n s v 0 is) in
      ap (λ (b : Bool). needless && plain_walk s v is || b) (some_any s v is)
      ∙ chosen needless (plain_walk s v is) any (unrested_keeps s v is (left 0) (home_of s v) is)
      ∙ sym (onward_places s v is start_n (home_of s v) is
      ∙ ap (λ (w : Walk). cond needless (plain_walk s v is) (keeps_maxima s v is w || any)) (walk_failed s v 0 (home_of s v) is))

  pub lawful_feasible : (is : List ℕ) → lawful s v is ≡ feasible_n s v is
  unfolding lawful feasible_n
  lawful_feasible is = ap (λ (b : Bool). cond (rests s v) (b || home_place s v is) (plain_walk s v is)) (rested_decides is)
