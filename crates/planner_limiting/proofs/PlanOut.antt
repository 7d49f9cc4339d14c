-- The plan in let in at the door and read into the tables, the limiter's there, and the plan out. Assumes nothing.
use mathlib.Core.Path.{◌≡◌, refl, sym, ap, ◌∙◌, subst}
use Prim.Native.Nat.{ℕ, zero, suc, ◌≤◌, ◌<◌}
use native.Mathlib.Omega.{arith}
use mathlib.Core.Bool.{Bool, true, false, ◌&&◌, true≢false}
use mathlib.Core.List.{List, [], ◌∷◌}
use lib.Dec.{T, leb, eqb}
use lib.Ieee.Fits.{and_r}
use lib.ListN.{length, get_or}
use borrow.Author.Tests.{eqb-true}
use Rattle.sheet.specs.Fields.{rows_of, sheet_length, plan_length}
use Rattle.sheet.specs.Refusal.{lengths_right}
use Rattle.lists.specs.Every.{Every}
use Rattle.lists.specs.Laws.Every.{every_of}
use Rattle.constructive.specs.Outcome.{Outcome}
use Rattle.constructive.specs.Right.{outcome_right}
use Rattle.plan.specs.Plan.{plan_of}
use Rattle.plan.specs.Read.{rounds_at, read_plan, plan_right}
use Rattle.plan.specs.Writable.{Chained}
use Rattle.plan_reader.specs.Reading.{stop_count}
use Rattle.plan_reasons.specs.Reasons.{with_reasons}
use Rattle.plan_reasons.specs.Copying.{copied_reason, Copied}
use Rattle.plan_door.specs.Door.{door_refusal, unless_refused, LetIn}
use Rattle.plan_door.specs.Laws.Door.{door_room, door_fits, door_accepted, door_one}
use Rattle.fleet.specs.Limit.{limit_routes}
use Rattle.fleet_limiter.specs.Limitable.{Limitable}
use Rattle.planner_limiting.specs.Limiting.{limit_refusal, limited_plan, LimitDone}

-- beside a plan in of its length, a plan out has it too if it is as long
same_room : (s : List ℕ) (m room : ℕ) → lengths_right s m ≡ true → eqb room m ≡ lengths_right s room
unfolding lengths_right
same_room s m room e = go (eqb (length s) (sheet_length s)) (eqb m (plan_length s)) refl e
  where
    go : (a b : Bool) → eqb m (plan_length s) ≡ b → a && b ≡ true → eqb room m ≡ (a && eqb room (plan_length s))
    go false b f g = absurd (true≢false (sym g))
    go true false f g = absurd (true≢false (sym g))
    go true true f g = ap (eqb room) (eqb-true m (plan_length s) f)

module _ (s plan lent : List ℕ) where
  abbrev room : Bool
  room = eqb (length lent) (length plan)

  door_limit : door_refusal s plan room true ≡ limit_refusal s plan (length lent)
  unfolding limit_refusal
  door_limit = door_room s plan room (lengths_right s (length lent)) true (same_room s (length plan) (length lent))

  pub limit_refused : (greatest n : ℕ) → 0 < n → n ≡ door_refusal s plan room true → LimitDone s plan greatest lent n lent
  limit_refused greatest n h e = let told : n ≡ limit_refusal s plan (length lent) = e ∙ door_limit in record { number = told; bytes = rw (← told) (go n h) }
    where
      go : (n : ℕ) → 0 < n → lent ≡ unless_refused n (limited_plan s plan greatest) lent
      go zero h = absurd (omega arith)
      go (suc n) h = refl

  module _ {stops ends vehicles : List ℕ} {n : ℕ} (let_in : LetIn s plan room true stops ends vehicles n) where
    read_right : T (outcome_right s (read_plan s plan))
    unfolding plan_right
    read_right = and_r (leb (rounds_at plan) (rows_of s)) (outcome_right s (read_plan s plan)) (subst T (sym let_in.read.right) tt)

    pub limit_may : Limitable s stops ends vehicles n (stop_count s)
    limit_may = record {
      tables = let_in.read.tables;
      right = rw let_in.read.outcome read_right;
      one = door_one s plan room true let_in.free refl;
      all = refl;
    }

    pub limit_fits : length lent ≡ plan_length s
    limit_fits = eqb-true (length lent) (length plan) (door_fits s plan room true let_in.free) ∙ (door_accepted s plan room true let_in.free).1

    pub limit_planned : length plan ≡ plan_length s
    limit_planned = (door_accepted s plan room true let_in.free).1

    pub limit_done : (greatest : ℕ) (out : List ℕ) → out ≡ limited_plan s plan greatest → LimitDone s plan greatest lent 0 out
    limit_done greatest out w = let none : limit_refusal s plan (length lent) ≡ 0 = sym door_limit ∙ let_in.free in record { number = sym none; bytes = rw (none, w) }

-- ---- the reasons
-- reasons that agree on the rows are the same
same_reasons : (s : List ℕ) (f g : ℕ → ℕ) (rows plan : List ℕ) → Every (λ (row : ℕ). f row ≡ g row) rows → with_reasons s f rows plan ≡ with_reasons s g rows plan
unfolding with_reasons
same_reasons s f g [] plan e = refl
same_reasons s f g (row ∷ rows) plan e = rw e.0 (same_reasons s f g rows _ e.1)

-- the plan out: of the outcome that is left, with the reasons from the table
pub read_out : (s plan : List ℕ) (greatest : ℕ) (why : List ℕ) → rows_of s ≤ length why → Copied s plan (read_plan s plan).aside why
    → (o : Outcome) → o ≡ limit_routes s greatest (read_plan s plan) → Chained s o.aside
    → with_reasons s (λ row. get_or why row 0) o.aside (plan_of s o true) ≡ limited_plan s plan greatest
unfolding limited_plan
read_out s plan greatest why fits copied o same rows =
    let told = copied_reason s plan (read_plan s plan).aside in
    same_reasons s (λ row. get_or why row 0) told o.aside (plan_of s o true)
    (every_of (λ (row : ℕ). get_or why row 0 ≡ told row) 0 o.aside (λ k h. copied (get_or o.aside k 0) (omega (arith, fits, rows.row k h))))
    ∙ ap (λ (p : Outcome). with_reasons s told p.aside (plan_of s p true)) same
