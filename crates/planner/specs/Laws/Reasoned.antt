-- The reasons in a plan of `plan_rounds` and in a plan out of the limiter, by their bytes. Assumes nothing.
use Rattle.std.specs.Prelude.{◌≡◌, refl, ℕ, ◌≤◌, ◌<◌, Bool, true, false, ◌||◌, List, T, eqb, get_or}
use Rattle.std.proofs.Common.{sym, ◌∙◌, arith, lt-ltb}
use Rattle.std.proofs.lemmas.Bool.{eqb-false}
use Rattle.lists.specs.Count.{count}
use Rattle.lists.specs.Every.{Every}
use Rattle.lists.specs.Laws.Permutation.{count_at, every_counted}
use Rattle.lists.specs.Laws.Every.{every_of, every_at, every_map}
use Rattle.sheet.specs.Fields.{rows_of, method_of}
use Rattle.sheet.specs.Values.{nought}
use Rattle.sheet.specs.Accepted.{Accepted}
use Rattle.multi_depot_offers.specs.ByDepot.{outcome_of}
use Rattle.multi_depot_offers.specs.Laws.Rounds.{outcome_right_lem, rounds_few}
use Rattle.plan.specs.Plan.{plan_of}
use Rattle.plan.specs.Read.{read_plan}
use Rattle.reason.specs.Reason.{is_nearest, reason_of}
use Rattle.reason.specs.Laws.Reason.{reason_range, reason_no_vehicle}
use Rattle.reason_aside.specs.Laws.Seven.{seven_nearest}
use Rattle.reason_aside.specs.Laws.Unlawful.{first_unlawful, nearest_unlawful}
use Rattle.plan_reasons.specs.Copying.{copied_reason}
use Rattle.plan_door.specs.Door.{plan_taken}
use Rattle.plan_door.specs.Laws.Told.{told_rows, told_each, told_others}
use Rattle.fleet.specs.Limit.{limit_routes}
use Rattle.planner_limiting.specs.Limiting.{limited_plan}
use Rattle.planner.specs.Answer.{plan_for}
use Rattle.planner.specs.Reasoned.{reason_in, ReasonGiven, ReasonsGiven, ReasonsCopied}
use Rattle.planner.specs.Laws.Promised.{plan_back}
use Rattle.planner.specs.Laws.LimitPromised.{copied_low, after_right, after_few, limited_back, limited_aside}

holds : (b : Bool) → T b → b ≡ true
holds true t = refl
holds false t = absurd t

module _ (s : List ℕ) (fine : Accepted s) (small : (i : ℕ) → get_or s i 0 < 256) where
  nearest : (i : ℕ) → 0 < count i (outcome_of s).aside → reason_of s i ≡ 7 → T (is_nearest s)
  nearest i h e = go (eqb (method_of s) 2) refl (eqb (method_of s) 3) refl
    where
      go : (a : Bool) → eqb (method_of s) 2 ≡ a → (b : Bool) → eqb (method_of s) 3 ≡ b → T (a || b)
      go true p b q = tt
      go false p true q = tt
      go false p false q = absurd (seven_nearest s fine (eqb-false (method_of s) 2 p) (eqb-false (method_of s) 3 q) i h e)

  stop_given : (i : ℕ) → i < rows_of s → 0 < count i (outcome_of s).aside → reason_in s (plan_for s) i ≡ reason_of s i → ReasonGiven s (plan_for s) i
  stop_given i row h e =
      let r = reason_range s i in
      let one = reason_no_vehicle s fine i in
      record {
        given = e;
        some = omega (arith, e, r.0);
        most = omega (arith, e, r.1);
        unmanned = (λ q. one.0 (sym e ∙ q), λ q. e ∙ one.1 q);
        used_up = λ q. nearest i h (sym e ∙ q);
        first = λ whole n v vs f. first_unlawful s fine whole i row v vs f (λ q. n (e ∙ q));
        any = λ whole n m. nearest_unlawful s fine whole i row (holds (is_nearest s) m) (λ q. n (e ∙ q));
      }

  given_each : Every (ReasonGiven s (plan_for s)) (outcome_of s).aside
  unfolding plan_for plan_of
  given_each =
      let o = outcome_of s in
      let low : (row : ℕ) → reason_of s row ≤ 8 = λ row. omega (arith, reason_range s row) in
      every_of (ReasonGiven s (plan_for s)) 0 o.aside (λ k h.
      stop_given (get_or o.aside k 0)
      (every_at (λ (row : ℕ). row < rows_of s) 0 o.aside k h (told_rows s o nought fine small (rounds_few s) (outcome_right_lem s) (reason_of s)))
      (count_at o.aside k h)
      (every_at (λ (row : ℕ). reason_in s (plan_for s) row ≡ reason_of s row) 0 o.aside k h (told_each s o _ fine small (rounds_few s) (outcome_right_lem s) (reason_of s) low)))

  given_others : (i : ℕ) → i < rows_of s → count i (outcome_of s).aside ≡ 0 → reason_in s (plan_for s) i ≡ 0
  unfolding plan_for plan_of
  given_others i row h = told_others s (outcome_of s) _ fine small (rounds_few s) (outcome_right_lem s) (reason_of s) i row h

  pub reasons_given : ReasonsGiven s (plan_for s)
  reasons_given = record { each = rw (plan_back s fine small) given_each; others = λ i row h. given_others i row (rw (plan_back s fine small) at h) }

-- ---- the limiter's
module _ (s plan : List ℕ) (greatest : ℕ) (fine : Accepted s) (small : (i : ℕ) → get_or s i 0 < 256) (taken : plan_taken s plan ≡ true) where
  abbrev out : List ℕ
  out = limited_plan s plan greatest

  left_each : Every (λ (row : ℕ). reason_in s out row ≡ copied_reason s plan (read_plan s plan).aside row) (limit_routes s greatest (read_plan s plan)).aside
  unfolding limited_plan plan_of
  left_each = told_each s (limit_routes s greatest (read_plan s plan)) _ fine small (after_few s plan greatest fine small taken) (after_right s plan greatest fine small taken) (copied_reason s plan (read_plan s plan).aside) (copied_low s plan greatest fine small taken)

  left_others : (i : ℕ) → i < rows_of s → count i (limit_routes s greatest (read_plan s plan)).aside ≡ 0 → reason_in s out i ≡ 0
  unfolding limited_plan plan_of
  left_others i row h = told_others s (limit_routes s greatest (read_plan s plan)) _ fine small (after_few s plan greatest fine small taken) (after_right s plan greatest fine small taken) (copied_reason s plan (read_plan s plan).aside) i row h

  back : read_plan s out ≡ limit_routes s greatest (read_plan s plan)
  back = limited_back s plan greatest fine small taken

  left_reason : (i : ℕ) → 0 < count i (read_plan s out).aside → reason_in s out i ≡ copied_reason s plan (read_plan s plan).aside i
  left_reason i h = every_counted (λ (row : ℕ). reason_in s out row ≡ copied_reason s plan (read_plan s plan).aside row) i (limit_routes s greatest (read_plan s plan)).aside left_each (rw back at h)

  pub reasons_copied : ReasonsCopied s plan out
  unfolding copied_reason
  reasons_copied = record {
    earlier = λ i h. left_reason i (omega (arith, (limited_aside s plan greatest fine small taken).stay i h)) ∙ rw (lt-ltb 0 (count i (read_plan s plan).aside) h) refl;
    dropped = λ i h k. left_reason i h ∙ rw k refl;
    most = rw back (every_map _ (λ (i : ℕ). reason_in s out i ≤ 8) (λ i e. omega (arith, e, copied_low s plan greatest fine small taken i)) (limit_routes s greatest (read_plan s plan)).aside left_each);
    others = λ i row h. left_others i row (rw back at h);
  }
