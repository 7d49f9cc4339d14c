-- Bytes that stand in a list: every number in them is read there. Assumes nothing.
use Rattle.std.specs.Prelude.{◌≡◌, ℕ, ◌+◌, ◌≤◌, List, ◌++◌, length}
use Rattle.std.proofs.Common.{sym, ap, ◌∙◌, zero-add, arith, length-append}
use Rattle.std.proofs.Math.ListN.{get_or-append}
use Rattle.wire.specs.Bytes.{le, write}
use Rattle.wire.specs.Laws.Bytes.{le_alike, le_in, length_write, le_past}

-- xs are the bytes of s from `at` on
pub record Stands (s : List ℕ) (at : ℕ) (xs : List ℕ) : Type 0 where
  pub within : at + length xs ≤ length s
  pub reads : (n i : ℕ) → i + n ≤ length xs → le n s (at + i) ≡ le n xs i

pub stands : (front xs more : List ℕ) (at : ℕ) → length front ≡ at → Stands (front ++ (xs ++ more)) at xs
stands front xs more at e =
    record {
      within = simp length-append (omega arith);
      reads = λ n i h.
          le_past n i at front (xs ++ more) e
          ∙ le_alike n (xs ++ more) xs i (λ j l u. get_or-append xs more 0 j (omega arith));
    }

-- and in a buffer that starts with that list
pub stands_written : (lent s : List ℕ) (at : ℕ) (xs : List ℕ) → length s ≤ length lent → Stands s at xs → Stands (write lent 0 s) at xs
stands_written lent s at xs room st =
    let w = st.within in
    let e = zero-add (length s) in
    let fits : 0 + length s ≤ length lent = omega arith in
    record {
      within = omega (arith, length_write lent 0 s fits);
      reads = λ n i h.
          ap (le n (write lent 0 s)) (sym (zero-add (at + i)))
          ∙ le_in lent 0 s fits n (at + i) (omega arith)
          ∙ st.reads n i h;
    }
