-- Reasons change nothing else that is read of a plan, and are read back. Assumes nothing.
use Rattle.std.specs.Prelude.{◌≡◌, ◌⊎◌, Bool, ◌&&◌, ltb, leb, length}
use Rattle.std.proofs.Math.Path.{refl, ap}
use Rattle.std.proofs.Common.{sym, ◌∙◌, inl, inr, arith, true≢false, eq-or-lt_of_le}
use Prim.Native.Nat.{ℕ, zero, suc, ◌+◌, ◌*◌, ◌≤◌, ◌<◌}
use Rattle.std.proofs.Math.Bool.{true, false}
use mathlib.Core.List.{List, [], ◌∷◌}
use Rattle.std.proofs.Math.Dec.{eqb}
use borrow.Author.Tests.{ltb-true, ltb-false, leb-true, le-leb, eqb-true, eqb-false}
use Rattle.lists.specs.Count.{one, count}
use Rattle.lists.specs.Every.{Every}
use Rattle.wire.specs.Bytes.{bytes, le, write}
use Rattle.wire.specs.Laws.Bytes.{length_bytes, length_write, le_before, le_after, le_back}
use Rattle.sheet.specs.Fields.{rows_of, plan_length}
use Rattle.plan.specs.Plan.{round_record_at, row_record_at}
use Rattle.plan.specs.Read.{rounds_at, aside_at, id_at, first_stop_at, next_at, linked, chain_from, rounds_from, read_plan}
use Rattle.plan_reasons.specs.Reasons.{reason_place, with_reasons, reason_at, reasons_right}

-- ---- m bytes from `at` on lie in no reason
abbrev Apart : ℕ → ℕ → ℕ → Type 0
Apart n m at = (row : ℕ) → row < n → (at + m ≤ reason_place n row) ⊎ (reason_place n row + 2 ≤ at)

module _ (s : List ℕ) (why : ℕ → ℕ) where
  one_long : (plan : List ℕ) (row : ℕ) → row < rows_of s → length plan ≡ plan_length s → length (write plan (reason_place (rows_of s) row) (bytes 2 (why row))) ≡ plan_length s
  one_long plan row h l = length_write plan (reason_place (rows_of s) row) (bytes 2 (why row)) (omega (arith, length_bytes 2 (why row))) ∙ l

  pub reasons_long : (rows plan : List ℕ) → Every (λ (row : ℕ). row < rows_of s) rows → length plan ≡ plan_length s → length (with_reasons s why rows plan) ≡ plan_length s
  unfolding with_reasons
  reasons_long [] plan e l = l
  reasons_long (row ∷ rows) plan e l = reasons_long rows _ e.1 (one_long plan row e.0 l)

  -- what lies apart is as it was
  reasons_keep : (rows plan : List ℕ) → Every (λ (row : ℕ). row < rows_of s) rows → length plan ≡ plan_length s → (m at : ℕ) → Apart (rows_of s) m at → le m (with_reasons s why rows plan) at ≡ le m plan at
  unfolding with_reasons
  reasons_keep [] plan e l m at a = refl
  reasons_keep (row ∷ rows) plan e l m at a = reasons_keep rows _ e.1 (one_long plan row e.0 l) m at a ∙ go (a row e.0)
    where
      go : (at + m ≤ reason_place (rows_of s) row) ⊎ (reason_place (rows_of s) row + 2 ≤ at) → le m (write plan (reason_place (rows_of s) row) (bytes 2 (why row))) at ≡ le m plan at
      go (inl h) = le_before plan (reason_place (rows_of s) row) (bytes 2 (why row)) (omega (arith, length_bytes 2 (why row), e.0, l)) m at h
      go (inr h) = le_after plan (reason_place (rows_of s) row) (bytes 2 (why row)) (omega (arith, length_bytes 2 (why row), e.0, l)) m at (omega (arith, length_bytes 2 (why row)))

-- ---- reading
low_apart : (n m at : ℕ) → at + m ≤ 16 + 56 * n → Apart n m at
low_apart n m at h row l = inl (omega arith)

-- the link of a row, whichever
next_apart : (n row : ℕ) → Apart n 2 (row_record_at n row)
next_apart n row other h = go (ltb row (other + 1)) refl
  where
    go : (b : Bool) → ltb row (other + 1) ≡ b → (row_record_at n row + 2 ≤ reason_place n other) ⊎ (reason_place n other + 2 ≤ row_record_at n row)
    go true e = inl (omega (arith, ltb-true row (other + 1) e))
    go false e = inr (omega (arith, ltb-false row (other + 1) e))

module _ (s : List ℕ) (why : ℕ → ℕ) (rows plan : List ℕ) (each : Every (λ (row : ℕ). row < rows_of s) rows) (long : length plan ≡ plan_length s) where
  abbrev after : List ℕ
  after = with_reasons s why rows plan

  kept : (m at : ℕ) → Apart (rows_of s) m at → le m after at ≡ le m plan at
  kept = reasons_keep s why rows plan each long

  -- header and round records are as they were
  pub reasons_low : (m at : ℕ) → at + m ≤ 16 + 56 * rows_of s → le m after at ≡ le m plan at
  reasons_low m at h = kept m at (low_apart (rows_of s) m at h)

  chain_kept : (fuel link : ℕ) → chain_from after (rows_of s) fuel link ≡ chain_from plan (rows_of s) fuel link
  unfolding chain_from next_at
  chain_kept zero link = refl
  chain_kept (suc fuel) link = ap (linked link) (rw (kept 2 (row_record_at (rows_of s) link) (next_apart (rows_of s) link)) (chain_kept fuel _))

  rounds_kept : (n k : ℕ) → k + n ≤ rows_of s → rounds_from s after n k ≡ rounds_from s plan n k
  unfolding rounds_from id_at first_stop_at
  rounds_kept zero k h = refl
  rounds_kept (suc n) k h =
      rw (kept 4 (round_record_at k) (low_apart (rows_of s) 4 (round_record_at k) (omega arith)), kept 2 (round_record_at k + 8) (low_apart (rows_of s) 2 (round_record_at k + 8) (omega arith)), chain_kept (rows_of s) (first_stop_at plan k), rounds_kept n (k + 1) (omega arith)) refl

  pub reasons_rounds : rounds_at after ≡ rounds_at plan
  unfolding rounds_at
  reasons_rounds = kept 2 0 (low_apart (rows_of s) 2 0 (omega arith))

  -- the rounds and the chains are as they were
  pub reasons_read : rounds_at plan ≤ rows_of s → read_plan s after ≡ read_plan s plan
  unfolding read_plan aside_at
  reasons_read few = rw (reasons_rounds, rounds_kept (rounds_at plan) 0 (omega arith), kept 2 2 (low_apart (rows_of s) 2 2 (omega arith)), chain_kept (rows_of s) (aside_at plan)) refl

-- ---- the reasons themselves
-- the reasons of two rows lie apart
reason_apart : (n row other : ℕ) → (row ≡ other → ⊥) → (reason_place n row + 2 ≤ reason_place n other) ⊎ (reason_place n other + 2 ≤ reason_place n row)
reason_apart n row other h = go (ltb row other) refl
  where
    go : (b : Bool) → ltb row other ≡ b → (reason_place n row + 2 ≤ reason_place n other) ⊎ (reason_place n other + 2 ≤ reason_place n row)
    go true e = inl (omega (arith, ltb-true row other e))
    go false e = later (eq-or-lt_of_le (ltb-false row other e))
      where
        later : (other ≡ row) ⊎ (other < row) → (reason_place n row + 2 ≤ reason_place n other) ⊎ (reason_place n other + 2 ≤ reason_place n row)
        later (inl q) = absurd (h (sym q))
        later (inr l) = inr (omega (arith, l))

module _ (s : List ℕ) (why : ℕ → ℕ) (low : (row : ℕ) → why row ≤ 8) where
  abbrev Told : List ℕ → ℕ → Type 0
  Told plan row = reason_at plan (rows_of s) row ≡ why row

  abbrev given : List ℕ → ℕ → List ℕ
  given plan row = write plan (reason_place (rows_of s) row) (bytes 2 (why row))

  module _ (plan : List ℕ) (other : ℕ) (in_rows : other < rows_of s) (long : length plan ≡ plan_length s) where
    fits : reason_place (rows_of s) other + length (bytes 2 (why other)) ≤ length plan
    fits = omega (arith, length_bytes 2 (why other), long)

    here : Told (given plan other) other
    unfolding reason_at
    here = le_back 2 plan (reason_place (rows_of s) other) (why other) (omega (arith, low other)) (omega (arith, long))

    still : (row : ℕ) → Told plan row → Told (given plan other) row
    unfolding reason_at
    still row t = go (eqb row other) refl
      where
        go : (b : Bool) → eqb row other ≡ b → Told (given plan other) row
        go true e = rw (eqb-true row other e) here
        go false e = apart (reason_apart (rows_of s) row other (eqb-false row other e))
          where
            apart : (reason_place (rows_of s) row + 2 ≤ reason_place (rows_of s) other) ⊎ (reason_place (rows_of s) other + 2 ≤ reason_place (rows_of s) row) → Told (given plan other) row
            apart (inl h) = le_before plan (reason_place (rows_of s) other) (bytes 2 (why other)) fits 2 (reason_place (rows_of s) row) h ∙ t
            apart (inr h) = le_after plan (reason_place (rows_of s) other) (bytes 2 (why other)) fits 2 (reason_place (rows_of s) row) (omega (arith, length_bytes 2 (why other))) ∙ t

  keeps_told : (rows plan : List ℕ) → Every (λ (row : ℕ). row < rows_of s) rows → length plan ≡ plan_length s → (row : ℕ) → Told plan row → Told (with_reasons s why rows plan) row
  unfolding with_reasons
  keeps_told [] plan e l row t = t
  keeps_told (other ∷ rows) plan e l row t = keeps_told rows (given plan other) e.1 (one_long s why plan other e.0 l) row (still plan other e.0 l row t)

  -- each is read back
  pub reasons_told : (rows plan : List ℕ) → Every (λ (row : ℕ). row < rows_of s) rows → length plan ≡ plan_length s → Every (Told (with_reasons s why rows plan)) rows
  unfolding with_reasons
  reasons_told [] plan e l = tt
  reasons_told (row ∷ rows) plan e l = let m = one_long s why plan row e.0 l in (keeps_told rows (given plan row) e.1 m row (here plan row e.0 l), reasons_told rows (given plan row) e.1 m)

  pub told_right : (plan rows : List ℕ) → Every (Told plan) rows → reasons_right s plan rows ≡ true
  unfolding reasons_right
  told_right plan [] e = refl
  told_right plan (row ∷ rows) e = rw (e.0, le-leb (why row) 8 (low row)) (told_right plan rows e.1)

-- ---- a row that is none of theirs keeps what stands there
pub reasons_off : (s : List ℕ) (why : ℕ → ℕ) (rows plan : List ℕ) → Every (λ (row : ℕ). row < rows_of s) rows → length plan ≡ plan_length s → (row : ℕ) → count row rows ≡ 0 → reason_at (with_reasons s why rows plan) (rows_of s) row ≡ reason_at plan (rows_of s) row
unfolding with_reasons reason_at count
reasons_off s why [] plan e l row h = refl
reasons_off s why (other ∷ rows) plan e l row h = go (λ k. reasons_off s why rows _ e.1 (one_long s why plan other e.0 l) row k) (eqb row other) refl h
  where
    after : List ℕ
    after = write plan (reason_place (rows_of s) other) (bytes 2 (why other))

    fits : reason_place (rows_of s) other + length (bytes 2 (why other)) ≤ length plan
    fits = omega (arith, length_bytes 2 (why other), e.0, l)

    apart : (reason_place (rows_of s) row + 2 ≤ reason_place (rows_of s) other) ⊎ (reason_place (rows_of s) other + 2 ≤ reason_place (rows_of s) row) → le 2 after (reason_place (rows_of s) row) ≡ le 2 plan (reason_place (rows_of s) row)
    apart (inl k) = le_before plan (reason_place (rows_of s) other) (bytes 2 (why other)) fits 2 (reason_place (rows_of s) row) k
    apart (inr k) = le_after plan (reason_place (rows_of s) other) (bytes 2 (why other)) fits 2 (reason_place (rows_of s) row) (omega (arith, length_bytes 2 (why other)))

    go : (count row rows ≡ 0 → reason_at (with_reasons s why rows after) (rows_of s) row ≡ reason_at after (rows_of s) row) → (b : Bool) → eqb row other ≡ b → one b + count row rows ≡ 0 → reason_at (with_reasons s why rows after) (rows_of s) row ≡ reason_at plan (rows_of s) row
    go rest true q h = absurd (omega arith)
    go rest false q h = rest (omega arith) ∙ apart (reason_apart (rows_of s) row other (eqb-false row other q))

-- a reason that is right is at most 8
pub right_low : (s plan rows : List ℕ) → reasons_right s plan rows ≡ true → (row : ℕ) → 0 < count row rows → reason_at plan (rows_of s) row ≤ 8
unfolding reasons_right count
right_low s plan [] r row h = absurd (omega arith)
right_low s plan (x ∷ xs) r row h = go (λ r h. right_low s plan xs r row h) (leb (reason_at plan (rows_of s) x) 8) refl r (eqb row x) refl h
  where
    go : (reasons_right s plan xs ≡ true → 0 < count row xs → reason_at plan (rows_of s) row ≤ 8) → (a : Bool) → leb (reason_at plan (rows_of s) x) 8 ≡ a → a && reasons_right s plan xs ≡ true → (b : Bool) → eqb row x ≡ b → 0 < one b + count row xs → reason_at plan (rows_of s) row ≤ 8
    go rest false e r b f h = absurd (true≢false (sym r))
    go rest true e r true f h = rw (eqb-true row x f) (leb-true (reason_at plan (rows_of s) x) 8 e)
    go rest true e r false f h = rest r (omega arith)
