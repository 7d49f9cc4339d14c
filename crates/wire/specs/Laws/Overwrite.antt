-- Writes over what was written, and what stands where. Assumes nothing.
use Rattle.std.specs.Prelude.{◌≡◌, ℕ, ◌+◌, ◌≤◌}
use Rattle.std.proofs.Math.Path.{sym, ap}
use Rattle.std.proofs.Common.{◌∙◌, arith, zero-add, length-append, length-drop, take-append-drop, length-take-le, take_at, drop_at, drop-drop}
use mathlib.Core.List.{List, ◌++◌, append_assoc, append-nil}
use Rattle.std.proofs.Math.ListN.{length, take, drop}
use Rattle.std.proofs.Math.Seq.{take-append_seam, drop-append-le, drop-length}
use Rattle.wire.specs.Bytes.{write}

-- what is put in the place of a part
pub put_part : (s : List ℕ) (at n : ℕ) (xs : List ℕ) → length xs ≡ n → take at s ++ (xs ++ drop n (drop at s)) ≡ write s at xs
unfolding write
put_part s at n xs e = rw (drop-drop n at s, e)

-- what is as long as all
pub write_all : (s xs : List ℕ) → length xs ≡ length s → write s 0 xs ≡ xs
unfolding write
write_all s xs e = rw (zero-add, e) (rw (drop-length s) (append-nil xs))

-- what stands there already changes nothing
pub write_same : (s : List ℕ) (at n : ℕ) → at + n ≤ length s → write s at (take n (drop at s)) ≡ s
unfolding write
write_same s at n h =
    let l : length (take n (drop at s)) ≡ n = length-take-le n (drop at s) (omega (arith, length-drop at s)) in
    rw l
    (ap (λ (t : List ℕ). take at s ++ (take n (drop at s) ++ t)) (sym (drop-drop n at s))
    ∙ ap (◌++◌ (take at s)) (take-append-drop n (drop at s))
    ∙ take-append-drop at s)

module _ (s : List ℕ) (at : ℕ) (xs ys : List ℕ) (room : at + length (xs ++ ys) ≤ length s) where
  abbrev after : List ℕ
  after = drop (at + length (xs ++ ys)) s

  front : length (take at s ++ xs) ≡ at + length xs
  front = length-append (take at s) xs ∙ ap (λ (n : ℕ). n + length xs) (length-take-le at s (omega arith))

  split : write s at (xs ++ ys) ≡ take at s ++ xs ++ (ys ++ after)
  unfolding write
  split = simp append_assoc

  -- what was written last
  drop_written : drop (at + length xs) (write s at (xs ++ ys)) ≡ ys ++ after
  drop_written = rw split (drop_at (take at s ++ xs) (ys ++ after) (at + length xs) front)

  pub part_write : take (length ys) (drop (at + length xs) (write s at (xs ++ ys))) ≡ ys
  part_write = rw drop_written (take-append_seam ys after)

  -- a write over its beginning
  pub write_within : (zs : List ℕ) → length zs ≤ length ys → write (write s at (xs ++ ys)) (at + length xs) zs ≡ write s at (xs ++ (zs ++ drop (length zs) ys))
  unfolding write
  write_within zs h =
      let long : length (xs ++ (zs ++ drop (length zs) ys)) ≡ length (xs ++ ys) = simp (length-append, length-drop) (omega arith) in
      let first : take (at + length xs) (write s at (xs ++ ys)) ≡ take at s ++ xs = rw split (take_at (take at s ++ xs) (ys ++ after) (at + length xs) front) in
      let rest : drop (at + length xs + length zs) (write s at (xs ++ ys)) ≡ drop (length zs) ys ++ after =
      sym (drop-drop (length zs) (at + length xs) (write s at (xs ++ ys))) ∙ ap (drop (length zs)) drop_written ∙ drop-append-le (length zs) ys after h in
      ap (λ (t : List ℕ). t ++ (zs ++ drop (at + length xs + length zs) (write s at (xs ++ ys)))) first
      ∙ ap (λ (t : List ℕ). take at s ++ xs ++ (zs ++ t)) rest
      ∙ sym (rw long (simp append_assoc))

  -- a write over all of what was written
  pub write_over : (zs : List ℕ) → length zs ≡ length ys → write (write s at (xs ++ ys)) (at + length xs) zs ≡ write s at (xs ++ zs)
  write_over zs e = write_within zs (omega arith) ∙ ap (λ (t : List ℕ). write s at (xs ++ (zs ++ t))) (ap (λ (n : ℕ). drop n ys) e ∙ drop-length ys) ∙ ap (λ (t : List ℕ). write s at (xs ++ t)) (append-nil zs)
