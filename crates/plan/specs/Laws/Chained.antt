-- Stops chained in a plan, one record at each row: what is read of them, and of all the rest. Assumes nothing.
use Rattle.std.specs.Prelude.{◌≡◌, refl, ◌⊎◌, ℕ, zero, suc, ◌+◌, ◌*◌, ◌≤◌, ◌<◌, ◌^◌, Bool, true, false, List, [], ◌∷◌, ◌++◌, eqb, ltb, length}
use Rattle.std.proofs.Common.{sym, ◌∙◌, inl, inr, add-zero, arith, ltb-true, ltb-false}
use Rattle.std.proofs.Math.Path.{ap}
use Rattle.std.proofs.Math.ListN.{get_or-append}
use Rattle.std.proofs.lemmas.Bool.{eqb-false}
use Rattle.lists.specs.Once.{Stops}
use Rattle.lists.specs.Laws.Once.{Distinct}
use Rattle.lists.specs.Count.{one, count}
use Rattle.wire.specs.Bytes.{le, bytes, write}
use Rattle.wire.specs.Laws.Bytes.{length_bytes, length_write, le_bytes, le_alike, le_in, le_before, le_after}
use Rattle.sheet.specs.Fields.{rows_of, most_rows}
use Rattle.evaluator.specs.Record.{visited_of}
use Rattle.evaluator.specs.declared.Progress.{Progress}
use Rattle.evaluator.specs.declared.Placed.{Placed}
use Rattle.plan.specs.Plan.{first_of, row_record_at, visit_bytes, aside_bytes, with_visits, with_aside}
use Rattle.plan.specs.Laws.Plan.{visit_long, aside_long}
use Rattle.plan.specs.Read.{next_at, chain_from}

-- each row's link is the row after it
abbrev pub Linked : List ℕ → ℕ → List ℕ → Type 0
Linked plan n [] = Unit
Linked plan n (row ∷ rows) = (next_at plan n row ≡ first_of rows) × Linked plan n rows

-- a record that starts with its link
pub record Starts (xs : List ℕ) (next : ℕ) : Type 0 where
  pub long : 2 ≤ length xs
  pub short : length xs ≤ 24
  pub link : le 2 xs 0 ≡ next

-- the plan after a record is written at each row of a chain
pub data Spread (n : ℕ) : List ℕ → List ℕ → List ℕ → Type 0 where
  none : {plan : List ℕ} → Spread n [] plan plan
  more : {row : ℕ} {rows xs plan after : List ℕ} → row < n → Starts xs (first_of rows) → Spread n rows (write plan (row_record_at n row) xs) after → Spread n (row ∷ rows) plan after

-- ---- the two kinds of record
pub first_lt : (n : ℕ) (rows : List ℕ) → n ≤ most_rows → Stops n rows → first_of rows < 256 ^ 2
first_lt n [] h o = omega arith
first_lt n (row ∷ rows) h o = let l = o.0.1 in omega arith

-- a number in a list of two parts
pub le_front : (m i : ℕ) (xs ys : List ℕ) → i + m ≤ length xs → le m (xs ++ ys) i ≡ le m xs i
le_front m i xs ys h = le_alike m (xs ++ ys) xs i (λ j l u. get_or-append xs ys 0 j (omega arith))

pub starts : (m v : ℕ) (rest : List ℕ) → v < 256 ^ m → le m (bytes m v ++ rest) 0 ≡ v
starts m v rest h = let k = length_bytes m v in le_front m 0 (bytes m v) rest (omega arith) ∙ le_bytes m v h

pub visits_spread : (s : List ℕ) (t : Placed) (p : Progress) (rows plan : List ℕ) → rows_of s ≤ most_rows → Stops (rows_of s) rows → Spread (rows_of s) rows plan (with_visits s t p rows plan)
unfolding with_visits visit_bytes
visits_spread s t p [] plan h o = none
visits_spread s t p (row ∷ rows) plan h o =
    let q = visited_of s t p row in
    let l = visit_long (first_of rows) q in
    more {xs = visit_bytes (first_of rows) q} o.0.1
    (record { long = omega arith; short = omega arith; link = starts 2 (first_of rows) _ (first_lt (rows_of s) rows h o.1) })
    (visits_spread s t q rows (write plan (row_record_at (rows_of s) row) (visit_bytes (first_of rows) q)) h o.1)

pub aside_spread : (s rows plan : List ℕ) → rows_of s ≤ most_rows → Stops (rows_of s) rows → Spread (rows_of s) rows plan (with_aside s rows plan)
unfolding with_aside aside_bytes
aside_spread s [] plan h o = none
aside_spread s (row ∷ rows) plan h o =
    let l = aside_long (first_of rows) in
    more {xs = aside_bytes (first_of rows)} o.0.1
    (record { long = omega arith; short = omega arith; link = le_bytes 2 (first_of rows) (first_lt (rows_of s) rows h o.1) })
    (aside_spread s rows (write plan (row_record_at (rows_of s) row) (aside_bytes (first_of rows))) h o.1)

-- ---- what is kept
-- a number of m bytes at i that lies in no record of these rows
abbrev pub Clear : ℕ → ℕ → ℕ → List ℕ → Type 0
Clear n m i [] = Unit
Clear n m i (row ∷ rows) = ((i + m ≤ row_record_at n row) ⊎ (row_record_at n row + 24 ≤ i)) × Clear n m i rows

pub clear_low : (n m i : ℕ) (rows : List ℕ) → i + m ≤ 16 + 56 * n → Clear n m i rows
clear_low n m i [] h = tt
clear_low n m i (row ∷ rows) h = (inl (omega arith), clear_low n m i rows h)

other : (n r row : ℕ) → (r ≡ row → ⊥) → (row_record_at n r + 2 ≤ row_record_at n row) ⊎ (row_record_at n row + 24 ≤ row_record_at n r)
other n r row h = go (ltb r row) refl
  where
    go : (b : Bool) → ltb r row ≡ b → (row_record_at n r + 2 ≤ row_record_at n row) ⊎ (row_record_at n row + 24 ≤ row_record_at n r)
    go true e = let l = ltb-true r row e in inl (omega arith)
    go false e = let l = ltb-false r row e in inr (omega (arith, h))

head_off : (r row : ℕ) (rows : List ℕ) → count r (row ∷ rows) ≡ 0 → (r ≡ row → ⊥) × (count r rows ≡ 0)
unfolding count
head_off r row rows h = go (eqb r row) refl
  where
    go : (b : Bool) → eqb r row ≡ b → (r ≡ row → ⊥) × (count r rows ≡ 0)
    go true e = absurd (let o : one (eqb r row) ≡ 1 = rw e in omega arith)
    go false e = (eqb-false r row e, omega arith)

pub clear_next : (n r : ℕ) (rows : List ℕ) → count r rows ≡ 0 → Clear n 2 (row_record_at n r) rows
clear_next n r [] h = tt
clear_next n r (row ∷ rows) h = let o = head_off r row rows h in (other n r row o.0, clear_next n r rows o.1)

module _ (n : ℕ) where
  room : (plan xs : List ℕ) (row next : ℕ) → length plan ≡ 16 + 80 * n → row < n → Starts xs next → row_record_at n row + length xs ≤ length plan
  room plan xs row next l h w = omega (arith, w.short)

  pub spread_length : {rows plan after : List ℕ} → length plan ≡ 16 + 80 * n → Spread n rows plan after → length after ≡ 16 + 80 * n
  spread_length l none = l
  spread_length l (more {row = row} {rows = rows} {xs = xs} {plan = plan} h w r) = spread_length (length_write plan (row_record_at n row) xs (room plan xs row (first_of rows) l h w) ∙ l) r

  pub spread_keeps : {rows plan after : List ℕ} (m i : ℕ) → length plan ≡ 16 + 80 * n → Spread n rows plan after → Clear n m i rows → le m after i ≡ le m plan i
  spread_keeps m i l none c = refl
  spread_keeps m i l (more {row = row} {rows = rows} {xs = xs} {plan = plan} {after = after} h w r) c =
      let f = room plan xs row (first_of rows) l h w in
      spread_keeps m i (length_write plan (row_record_at n row) xs f ∙ l) r c.1 ∙ go f c.0
    where
      go : row_record_at n row + length xs ≤ length plan → (i + m ≤ row_record_at n row) ⊎ (row_record_at n row + 24 ≤ i) → le m (write plan (row_record_at n row) xs) i ≡ le m plan i
      go f (inl k) = le_before plan (row_record_at n row) xs f m i k
      go f (inr k) = le_after plan (row_record_at n row) xs f m i (omega (arith, w.short))

  pub spread_links : {rows plan after : List ℕ} → length plan ≡ 16 + 80 * n → Distinct rows → Spread n rows plan after → Linked after n rows
  unfolding next_at
  spread_links l d none = tt
  spread_links l d (more {row = row} {rows = rows} {xs = xs} {plan = plan} {after = after} h w r) =
      let f = room plan xs row (first_of rows) l h w in
      let k = length_write plan (row_record_at n row) xs f ∙ l in (
        spread_keeps 2 (row_record_at n row) k r (clear_next n row rows d.0)
            ∙ ap (le 2 (write plan (row_record_at n row) xs)) (sym (add-zero (row_record_at n row)))
            ∙ le_in plan (row_record_at n row) xs f 2 0 w.long
            ∙ w.link,
        spread_links k d.1 r,
      )

-- ---- a chain that is linked is read back
pub chain_back : (plan : List ℕ) (n fuel : ℕ) (rows : List ℕ) → Linked plan n rows → Stops n rows → length rows ≤ fuel → chain_from plan n fuel (first_of rows) ≡ rows
unfolding chain_from
chain_back plan n zero [] l o h = refl
chain_back plan n zero (row ∷ rows) l o h = absurd (omega arith)
chain_back plan n (suc fuel) [] l o h = refl
chain_back plan n (suc fuel) (zero ∷ rows) l o h = absurd (omega (arith, o.0.0))
chain_back plan n (suc fuel) (suc row ∷ rows) l o h = rw (l.0, chain_back plan n fuel rows l.1 o.1 (omega arith))
