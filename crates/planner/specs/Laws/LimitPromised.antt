-- The limiter's plan out keeps what is promised: every stop once, few rounds, and each as it stood or feasible. Assumes nothing.
use Rattle.std.specs.Prelude.{◌≡◌, refl, ℕ, ◌≤◌, ◌<◌, Bool, true, false, ◌&&◌, cond, List, T, leb, length, get_or}
use Rattle.std.proofs.Common.{sym, subst, ◌∙◌, arith, true≢false}
use Rattle.std.proofs.Math.Dec.{leb→le}
use Rattle.std.specs.Float.Ieee.Fits.{and_l, and_r}
use borrow.Author.Tests.{le-leb, lt-ltb, ltb-true}
use Rattle.lists.specs.Count.{count, is_in}
use Rattle.lists.specs.Every.{Every}
use Rattle.sheet.specs.Fields.{rows_of}
use Rattle.sheet.specs.Depots.{depots_of}
use Rattle.sheet.specs.Accepted.{Accepted}
use Rattle.constructive.specs.Right.{outcome_right}
use Rattle.plan.specs.Plan.{plan_of}
use Rattle.plan.specs.Read.{read_plan, rounds_at, plan_right}
use Rattle.plan_reasons.specs.Reasons.{reason_at, reasons_right}
use Rattle.plan_reasons.specs.Copying.{copied_reason}
use Rattle.plan_reasons.specs.Laws.Reasons.{right_low}
use Rattle.plan_door.specs.Door.{plan_taken}
use Rattle.plan_door.specs.Laws.Told.{taken_right, told_back, told_taken}
use Rattle.plan_figures.specs.Laws.Rounds.{rounds_long}
use Rattle.fleet.specs.Limit.{limit_routes}
use Rattle.fleet.specs.Laws.RoundCount.{limit_few, limit_no_more}
use Rattle.fleet.specs.Stood.{Stood}
use Rattle.fleet.specs.Laws.Stood.{limit_kept}
use Rattle.fleet.specs.Laws.Placed.{outcome_once, limit_counts}
use Rattle.fleet.specs.Laws.Aside.{aside_kept, aside_ascends}
use Rattle.planner_limiting.specs.Limiting.{limited_plan}
use Rattle.planner.specs.Answer.{Standing}
use Rattle.planner.specs.Limited.{LeftAside}

module _ (s plan : List ℕ) (greatest : ℕ) (fine : Accepted s) (small : (i : ℕ) → get_or s i 0 < 256) (taken : plan_taken s plan ≡ true) where
  right : T (plan_right s plan)
  right = taken_right s plan (subst T (sym taken) tt)

  -- no reason is above 8
  pub copied_low : (row : ℕ) → copied_reason s plan (read_plan s plan).aside row ≤ 8
  unfolding copied_reason plan_taken
  copied_low row = go (is_in row (read_plan s plan).aside) refl
    where
      go : (b : Bool) → is_in row (read_plan s plan).aside ≡ b → cond b (reason_at plan (rows_of s) row) 8 ≤ 8
      go true e = right_low s plan (read_plan s plan).aside (both (plan_right s plan) (reasons_right s plan (read_plan s plan).aside) taken) row (ltb-true 0 (count row (read_plan s plan).aside) e)
        where
          both : (a b : Bool) → a && b ≡ true → b ≡ true
          both true b e = e
          both false b e = absurd (true≢false (sym e))
      go false e = omega arith

  before_right : T (outcome_right s (read_plan s plan))
  unfolding plan_right
  before_right = and_r (leb (rounds_at plan) (rows_of s)) (outcome_right s (read_plan s plan)) right

  before_few : length (read_plan s plan).rounds ≤ rows_of s
  unfolding plan_right read_plan
  before_few = omega (arith, rounds_long s plan (rounds_at plan) 0, leb→le (rounds_at plan) (rows_of s) (and_l (leb (rounds_at plan) (rows_of s)) (outcome_right s (read_plan s plan)) right))

  pub after_right : T (outcome_right s (limit_routes s greatest (read_plan s plan)))
  after_right = limit_counts s greatest (read_plan s plan) before_right

  pub after_few : length (limit_routes s greatest (read_plan s plan)).rounds ≤ rows_of s
  after_few = omega (arith, before_few, limit_no_more s greatest (read_plan s plan))

  -- reading the plan out gives its outcome back
  pub limited_back : read_plan s (limited_plan s plan greatest) ≡ limit_routes s greatest (read_plan s plan)
  unfolding limited_plan plan_of
  limited_back = told_back s (limit_routes s greatest (read_plan s plan)) _ fine small after_few after_right (copied_reason s plan (read_plan s plan).aside)

  pub limited_stands : Standing s (limited_plan s plan greatest)
  unfolding limited_plan plan_of
  limited_stands = record {
    each = λ i l h. rw limited_back (outcome_once s (limit_routes s greatest (read_plan s plan)) after_right i ∙ rw (le-leb (depots_of s) i l, lt-ltb i (rows_of s) h));
    right = told_taken s (limit_routes s greatest (read_plan s plan)) _ fine small after_few after_right (copied_reason s plan (read_plan s plan).aside) copied_low;
  }

  pub limited_few : length (read_plan s (limited_plan s plan greatest)).rounds ≤ greatest
  limited_few = rw limited_back (limit_few s greatest (read_plan s plan))

  pub limited_stood : Every (Stood s (read_plan s plan).rounds) (read_plan s (limited_plan s plan greatest)).rounds
  limited_stood = rw limited_back (limit_kept s greatest (read_plan s plan))

  pub limited_aside : LeftAside s plan (limited_plan s plan greatest)
  limited_aside = record {
    stay = λ i h. rw limited_back (aside_kept s greatest (read_plan s plan) before_right i h);
    ascending = rw limited_back (aside_ascends s greatest (read_plan s plan));
  }
