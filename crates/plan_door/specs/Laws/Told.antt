-- A plan that is taken; and the plan of an outcome with the reasons of its stops set aside: read back, it is that outcome, and refusal 10 is not told of it. Assumes nothing.
use Rattle.std.specs.Prelude.{◌≡◌, ℕ, ◌+◌, ◌≤◌, ◌<◌, Bool, ◌&&◌, List, [], ◌∷◌, leb, length, get_or, Float}
use Rattle.std.proofs.Common.{sym, ◌∙◌, arith}
use Rattle.std.proofs.Math.Path.{subst}
use Rattle.std.proofs.Math.Bool.{true, false}
use Rattle.std.proofs.Math.Dec.{T, leb→le}
use Rattle.std.specs.Float.Ieee.Fits.{and_l}
use Rattle.lists.specs.Count.{count}
use Rattle.lists.specs.Every.{Every}
use Rattle.lists.specs.Once.{Stops}
use Rattle.sheet.specs.Fields.{rows_of, plan_length}
use Rattle.sheet.specs.Accepted.{Accepted}
use Rattle.wire.specs.Bytes.{le}
use Rattle.constructive.specs.Outcome.{Outcome, round_at}
use Rattle.constructive.specs.Right.{outcome_right}
use Rattle.plan.specs.Plan.{round_record_at, plan_bytes}
use Rattle.plan.specs.Stated.{record_bytes}
use Rattle.plan.specs.Read.{rounds_at, read_plan, plan_right}
use Rattle.plan.specs.Laws.Spare.{written_spare}
use Rattle.plan.specs.Laws.RoundTrip.{stops, written_long, aside_rows, read_written, written_right, record_written}
use Rattle.plan_reasons.specs.Reasons.{with_reasons, reason_at, reasons_right}
use Rattle.plan_reasons.specs.Laws.Reasons.{reasons_off, reasons_low, reasons_rounds, reasons_read, reasons_told, told_right}
use Rattle.plan_door.specs.Door.{plan_taken}

-- a plan that is taken is right
pub taken_right : (s plan : List ℕ) → T (plan_taken s plan) → T (plan_right s plan)
unfolding plan_taken
taken_right s plan t = and_l (plan_right s plan) (reasons_right s plan (read_plan s plan).aside) t

stops_rows : (n : ℕ) (rows : List ℕ) → Stops n rows → Every (λ (row : ℕ). row < n) rows
stops_rows n [] e = tt
stops_rows n (row ∷ rows) e = (e.0.1, stops_rows n rows e.1)

module _ (s : List ℕ) (o : Outcome) (cost : Float) (fine : Accepted s) (small : (i : ℕ) → get_or s i 0 < 256) (few : length o.rounds ≤ rows_of s) (right : T (outcome_right s o)) (why : ℕ → ℕ) where
  abbrev base : List ℕ
  base = plan_bytes s o cost

  abbrev told : List ℕ
  told = with_reasons s why o.aside base

  -- they are rows
  pub told_rows : Every (λ (row : ℕ). row < rows_of s) o.aside
  told_rows = stops_rows (rows_of s) o.aside (aside_rows s o cost fine small few right)

  long : length base ≡ plan_length s
  long = written_long s o cost fine small few right

  base_few : rounds_at base ≤ rows_of s
  unfolding plan_right
  base_few = leb→le (rounds_at base) (rows_of s) (and_l (leb (rounds_at base) (rows_of s)) (outcome_right s (read_plan s base)) (written_right s o cost fine small few right))

  kept_read : read_plan s told ≡ read_plan s base
  kept_read = reasons_read s why o.aside base told_rows long base_few

  pub told_back : read_plan s told ≡ o
  told_back = kept_read ∙ read_written s o cost fine small few right

  -- the record of a round, counted from 0, stands where it is written
  pub told_record : (n : ℕ) → n < length o.rounds → (m i : ℕ) → i + m ≤ 56 → le m told (round_record_at n + i) ≡ le m (record_bytes s (round_at o.rounds n)) i
  told_record n h m i j = reasons_low s why o.aside base told_rows long m (round_record_at n + i) (omega (arith, few)) ∙ record_written s o cost fine small few right n h m i j

  -- a row that is not set aside has none
  pub told_others : (row : ℕ) → row < rows_of s → count row o.aside ≡ 0 → reason_at told (rows_of s) row ≡ 0
  unfolding reason_at
  told_others row h k = reasons_off s why o.aside base told_rows long row k ∙ written_spare s row h o cost few (stops s o cost fine small few right)

  module _ (low : (row : ℕ) → why row ≤ 8) where
    -- each of those set aside has its own
    pub told_each : Every (λ (row : ℕ). reason_at told (rows_of s) row ≡ why row) o.aside
    told_each = reasons_told s why low o.aside base told_rows long

    pub told_taken : T (plan_taken s told)
    unfolding plan_taken plan_right
    told_taken =
        rw (reasons_rounds s why o.aside base told_rows long, kept_read)
        (both (leb (rounds_at base) (rows_of s) && outcome_right s (read_plan s base)) (reasons_right s told (read_plan s base).aside) (written_right s o cost fine small few right)
        (rw (read_written s o cost fine small few right) (told_right s why low told o.aside told_each)))
      where
        both : (a b : Bool) → T a → b ≡ true → T (a && b)
        both a b t e = subst (λ (c : Bool). T (a && c)) (sym e) (one a t)
          where
            one : (a : Bool) → T a → T (a && true)
            one true t = tt
            one false t = absurd t
