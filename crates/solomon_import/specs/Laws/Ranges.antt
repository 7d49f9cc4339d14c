-- The importer's ranges are the sheet's own: of a customer or a capacity that its fields hold, both say the same. Assumes nothing.
use Rattle.std.specs.Prelude.{◌≡◌, refl, ℕ, zero, suc, ◌+◌, ◌^◌, ◌≤◌, Bool, true, false, ◌&&◌, List, [], T, leb, eqb, ℤ, pos, negsuc, nat_abs}
use Rattle.std.proofs.Common.{sym, ap, ◌∙◌, subst, arith, append-nil, lit≤, le-leb}
use Rattle.numbers.specs.Range.{whole, in_range}
use Rattle.sheet.specs.Fields.{marked}
use Rattle.sheet.specs.Ranges.{capacity, marks, amount, zero_bits, optional, interval, serving_in_range, row_in_range}
use Rattle.sheet_writer.specs.Sheet.{row_record}
use Rattle.sheet_writer.specs.Laws.Stands.{stands}
use Rattle.sheet_writer.specs.Laws.Read.{FloatRead, RowRead, row_read}
use Rattle.solomon_text.specs.Numbers.{is_up_to}
use Rattle.solomon_import.specs.Instance.{Customer}
use Rattle.solomon_import.specs.Import.{amount_range, window_range, customer_range, capacity_range, whole_of, marks_at, row_fields_of}
use Rattle.solomon_import.specs.Laws.Ranged.{up_to_size}
use Rattle.solomon_import.specs.Laws.Whole.{le_whole, in_range_whole, zero_pattern}
use Rattle.solomon_import.specs.Laws.Imported.{CustomerFits, row_fits, marks_small}

-- ---- f64 fields
up_to_test : (most : ℕ) (z : ℤ) → T (is_up_to (2 ^ 53) z) → leb (nat_abs z) most ≡ is_up_to most z
up_to_test most (pos n) h = refl
up_to_test most (negsuc n) h = absurd h

pub amount_read : (s : List ℕ) (at : ℕ) (z : ℤ) → T (is_up_to (2 ^ 53) z) → FloatRead s at (whole_of z) → amount s at ≡ amount_range z
unfolding amount
amount_read s at z u r =
    ap (λ (n : ℕ). in_range n (whole (10 ^ 9))) r.bits ∙ in_range_whole (nat_abs z) (10 ^ 9) (up_to_size (2 ^ 53) z u) (lit≤ tt) ∙ up_to_test (10 ^ 9) z u

pub window_read : (s : List ℕ) (at end : ℕ) → end ≡ at + 8 → (y z : ℤ) → T (is_up_to (2 ^ 53) y) → T (is_up_to (2 ^ 53) z) → FloatRead s at (whole_of y) → FloatRead s end (whole_of z) → interval true s at ≡ window_range y z
unfolding interval window_range
window_read s at end e y z u v q r =
    rw (← e, amount_read s at y u q, amount_read s end z v r, q.number, r.number, le_whole (nat_abs y) (nat_abs z) (up_to_size (2 ^ 53) y u) (up_to_size (2 ^ 53) z v))

pub unmarked_read : (s : List ℕ) (at : ℕ) → FloatRead s at (whole 0) → zero_bits s at ≡ true
unfolding zero_bits
unmarked_read s at r = ap (λ (n : ℕ). eqb n 0) (r.bits ∙ zero_pattern)

-- ---- marks
pub window_marked : (i : ℕ) → marked 2 (marks_at i) ≡ true
unfolding marked
window_marked zero = refl
window_marked (suc i) = refl

pub penalty_unmarked : (i : ℕ) → marked 4 (marks_at i) ≡ false
unfolding marked
penalty_unmarked zero = refl
penalty_unmarked (suc i) = refl

pub marks_right : (i : ℕ) → marks (marks_at i) ≡ true
unfolding marks
marks_right zero = refl
marks_right (suc i) = refl

-- ---- a row
turned : (a b : Bool) → (a && (b && true)) ≡ (b && a)
turned true true = refl
turned true false = refl
turned false true = refl
turned false false = refl

row_in_range_lem : (s : List ℕ) (at i : ℕ) (c : Customer) → CustomerFits c → RowRead s at (row_fields_of (marks_at i) c) → row_in_range s at ≡ customer_range c
unfolding row_in_range serving_in_range customer_range optional row_fields_of
row_in_range_lem s at i c f r =
    rw (r.x, r.y, r.demand, r.marks, marks_right i, window_marked i, penalty_unmarked i, amount_read s (at + 16) c.service f.service r.service, window_read s (at + 24) (at + 32) (omega arith) c.ready c.due f.ready f.due r.ready r.due, unmarked_read s (at + 40) r.penalty, turned (amount_range c.service) (window_range c.ready c.due)) refl

pub ranges_same : (i : ℕ) (c : Customer) → CustomerFits c → row_in_range (row_record (row_fields_of (marks_at i) c)) 0 ≡ customer_range c
ranges_same i c f =
    let row = row_fields_of (marks_at i) c in
    row_in_range_lem (row_record row) 0 i c f
    (subst (λ (s : List ℕ). RowRead s 0 row) (append-nil (row_record row)) (row_read _ 0 row (row_fits (marks_at i) c (marks_small i) f) (stands [] (row_record row) [] 0 refl)))

-- ---- the vehicle
pub capacity_same : (z : ℤ) → nat_abs z ≤ 0x7fff_ffff → capacity z ≡ capacity_range z
unfolding capacity
capacity_same (pos n) h = sym (le-leb n 0x7fff_ffff h)
capacity_same (negsuc n) h = refl
