-- A run of writes, each from where the one before ends, is one write. Assumes nothing.
use mathlib.Core.Path.{◌≡◌, sym, ap, ◌∙◌}
use Prim.Native.Nat.{ℕ, ◌+◌, ◌≤◌}
use native.Mathlib.Omega.{arith}
use mathlib.Core.List.{List, ◌++◌}
use lib.ListN.{length, length-append}
use Rattle.wire.specs.Bytes.{bytes, write}
use Rattle.wire.specs.Laws.Bytes.{length_bytes, write_write}

-- t is s with the n bytes xs from `at` on
pub record Wrote (n : ℕ) (s t : List ℕ) (at : ℕ) (xs : List ℕ) : Type 0 where
  pub long : length xs ≡ n
  pub same : t ≡ write s at xs

pub wrote : (n v : ℕ) {s t : List ℕ} {at : ℕ} → t ≡ write s at (bytes n v) → Wrote n s t at (bytes n v)
wrote n v e = record { long = length_bytes n v; same = e }

-- the second follows the first, which it is part of
pub then : {n m at place : ℕ} {s t u xs ys : List ℕ} → Wrote n s t at xs → Wrote m t u place ys → place ≡ at + n → at + (n + m) ≤ length s → Wrote (n + m) s u at (xs ++ ys)
then {n} {m} {at} {place} {s} {t} {u} {xs} {ys} a b e room =
    let i = a.long in
    let j = b.long in
    record {
      long = length-append xs ys ∙ omega arith;
      same = b.same ∙ ap (λ (l : List ℕ). write l place ys) a.same ∙ ap (λ (k : ℕ). write (write s at xs) k ys) (e ∙ ap (◌+◌ at) (sym i)) ∙ write_write s at xs (omega arith) ys (omega arith);
    }
