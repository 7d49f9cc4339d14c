-- Laws of little-endian numbers and of writes, over any width. Assumes nothing.
use Rattle.std.specs.Prelude.{◌≡◌, refl, ℕ, zero, suc, ◌+◌, ◌-◌, ◌*◌, ◌/◌, ◌%◌, ◌^◌, ◌≤◌, ◌<◌, T, set, pos, negsuc, Float}
use Rattle.std.proofs.Math.Path.{sym, ap}
use Rattle.std.proofs.Common.{◌∙◌, add-zero, zero-add, suc-add, add_assoc, one-mul, mul-add, mul_assoc, pow-suc, div-one, add-one, arith, length-drop, length-take-le, take_at, drop_at, get_or-drop, lt-ltb, le-ltb, take-append-drop}
use Rattle.std.proofs.Math.Nat.{pow-zero, pow-succ', one-le-pow, div-div-eq-div-mul}
use mathlib.Core.List.{List, [], ◌∷◌, ◌++◌, append_assoc}
use Rattle.std.proofs.Math.Arith.{mod-mul}
use Rattle.std.proofs.Math.ListN.{length, get_or, take, drop, length-append, length-take, get_or-append}
use Rattle.std.proofs.Math.Seq.{drop-append-add, get_or-append-add, get_or-take, drop-drop}
use Rattle.std.proofs.lemmas.List.{set_split}
use Rattle.std.specs.Float.{binary64}
use Rattle.std.specs.Float.Ieee.{fits, of_bits, to_bits}
use Rattle.std.specs.Float.Ieee.Bits.{of_bits-to_bits, to_bits-lt}
use Rattle.wire.specs.Bytes.{le, bytes, write, signed, f64_at}

-- ---- a number of a + b bytes is one of a bytes and one of b bytes
pub le_split : (a b : ℕ) (s : List ℕ) (at : ℕ) → le (a + b) s at ≡ le a s at + 256 ^ a * le b s (at + a)
unfolding le
le_split zero b s at = simp (zero-add, add-zero, pow-zero, one-mul)
le_split (suc a) b s at =
    let h = le_split a b s (at + 1) in
    let e : at + 1 + a ≡ at + suc a = omega arith in
    simp (suc-add, h, e, mul-add, pow-succ', mul_assoc, add_assoc)

pub bytes_split : (a b v : ℕ) → bytes (a + b) v ≡ bytes a v ++ bytes b (v / 256 ^ a)
unfolding bytes
bytes_split zero b v = simp (zero-add, pow-zero, div-one)
bytes_split (suc a) b v = simp (suc-add, bytes_split a b (v / 256), div-div-eq-div-mul, pow-succ')

-- the bytes depend on the lowest ones only
pub bytes_low : (a v : ℕ) → bytes a (v % 256 ^ a) ≡ bytes a v
unfolding bytes
bytes_low zero v = refl
bytes_low (suc a) v =
    let q = v / 256 % 256 ^ a in
    let e : v % 256 ^ suc a ≡ q * 256 + v % 256 = rw pow-suc (mod-mul v (one-le-pow a 256 (omega arith)) (omega arith)) in
    let l : v % 256 ^ suc a % 256 ≡ v % 256 = omega arith in
    let h : v % 256 ^ suc a / 256 ≡ q = omega arith in
    rw (l, h, bytes_low a (v / 256))

pub length_bytes : (n v : ℕ) → length (bytes n v) ≡ n
unfolding bytes
length_bytes zero v = refl
length_bytes (suc n) v = ap suc (length_bytes n (v / 256))

-- bytes below 256 make a number below 256 ^ n
pub le_lt : (n : ℕ) (s : List ℕ) (at : ℕ) → ((i : ℕ) → get_or s i 0 < 256) → le n s at < 256 ^ n
unfolding le
le_lt zero s at h = omega (arith, pow-zero 256)
le_lt (suc n) s at h = omega (arith, pow-succ' 256 n, h at, le_lt n s (at + 1) h)

-- ---- reads in a part of a list
pub le_drop : (n k : ℕ) (s : List ℕ) (at : ℕ) → le n (drop k s) at ≡ le n s (k + at)
unfolding le
le_drop zero k s at = refl
le_drop (suc n) k s at = rw (get_or-drop, le_drop n k s (at + 1), ← add_assoc)

pub le_past : (n i at : ℕ) (front rest : List ℕ) → length front ≡ at → le n (front ++ rest) (at + i) ≡ le n rest i
le_past n i at front rest e = sym (le_drop n at (front ++ rest) i) ∙ ap (λ (l : List ℕ). le n l i) (drop_at front rest at e)

pub le_bytes : (n v : ℕ) → v < 256 ^ n → le n (bytes n v) 0 ≡ v
unfolding le bytes
le_bytes zero v h = omega (arith, pow-zero 256)
le_bytes (suc n) v h =
    let a = le_drop n 1 (v % 256 ∷ bytes n (v / 256)) 0 in
    let b = le_bytes n (v / 256) (omega (arith, pow-succ' 256 n)) in
    omega arith

-- two lists that agree where the number is read
pub le_alike : (n : ℕ) (s t : List ℕ) (at : ℕ) → ((i : ℕ) → at ≤ i → i < at + n → get_or s i 0 ≡ get_or t i 0) → le n s at ≡ le n t at
unfolding le
le_alike zero s t at h = refl
le_alike (suc n) s t at h =
    let a = h at (omega arith) (omega arith) in
    let b = le_alike n s t (at + 1) (λ i l u. h i (omega arith) (omega arith)) in
    omega arith

-- ---- writes
module _ (s : List ℕ) (at : ℕ) (xs : List ℕ) (room : at + length xs ≤ length s) where
  length_head : length (take at s) ≡ at
  length_head = length-take-le at s (omega arith)

  length_front : length (take at s ++ xs) ≡ at + length xs
  length_front = simp (length-append, length_head)

  pub length_write : length (write s at xs) ≡ length s
  unfolding write
  length_write = simp (length-append, length-take, length-drop) (omega arith)

  -- what lies before the written bytes, with them, and after them
  pub take_write : take (at + length xs) (write s at xs) ≡ take at s ++ xs
  unfolding write
  take_write = rw (← append_assoc) (take_at (take at s ++ xs) (drop (at + length xs) s) (at + length xs) length_front)

  pub drop_write : (n : ℕ) → drop (at + length xs + n) (write s at xs) ≡ drop (at + length xs + n) s
  unfolding write
  drop_write n =
      rw (← append_assoc, ← length_front) (drop-append-add (take at s ++ xs) (drop (length (take at s ++ xs)) s) n ∙ drop-drop n (length (take at s ++ xs)) s)

  pub byte_before : (i : ℕ) → i < at → get_or (write s at xs) i 0 ≡ get_or s i 0
  unfolding write
  byte_before i h = get_or-append (take at s) (xs ++ drop (at + length xs) s) 0 i (omega (arith, length_head)) ∙ get_or-take at s i 0 h

  pub byte_in : (i : ℕ) → i < length xs → get_or (write s at xs) (at + i) 0 ≡ get_or xs i 0
  unfolding write
  byte_in i h =
      ap (λ (k : ℕ). get_or (take at s ++ (xs ++ drop (at + length xs) s)) (k + i) 0) (sym length_head)
      ∙ get_or-append-add (take at s) (xs ++ drop (at + length xs) s) i 0
      ∙ get_or-append xs (drop (at + length xs) s) 0 i h

  pub byte_after : (i : ℕ) → at + length xs ≤ i → get_or (write s at xs) i 0 ≡ get_or s i 0
  byte_after i h =
      let n = at + length xs + 0 in
      let e : n + (i - n) ≡ i = omega arith in
      ap (λ (k : ℕ). get_or (write s at xs) k 0) (sym e)
      ∙ sym (get_or-drop n (write s at xs) (i - n) 0)
      ∙ ap (λ (l : List ℕ). get_or l (i - n) 0) (drop_write 0)
      ∙ get_or-drop n s (i - n) 0
      ∙ ap (λ (k : ℕ). get_or s k 0) e

  -- adjacent writes join
  pub write_write : (ys : List ℕ) → at + length xs + length ys ≤ length s → write (write s at xs) (at + length xs) ys ≡ write s at (xs ++ ys)
  unfolding write
  write_write ys h =
      ap (λ (l : List ℕ). l ++ (ys ++ drop (at + length xs + length ys) (write s at xs))) take_write
      ∙ ap (λ (l : List ℕ). take at s ++ xs ++ (ys ++ l)) (drop_write (length ys))
      ∙ simp (append_assoc, length-append, add_assoc)

  -- a number within the written bytes, before them, and after them
  pub le_in : (n i : ℕ) → i + n ≤ length xs → le n (write s at xs) (at + i) ≡ le n xs i
  unfolding write
  le_in n i h =
      sym (le_drop n at (write s at xs) i)
      ∙ ap (λ (l : List ℕ). le n l i) (drop_at (take at s) (xs ++ drop (at + length xs) s) at length_head)
      ∙ le_alike n (xs ++ drop (at + length xs) s) xs i (λ j l u. get_or-append xs (drop (at + length xs) s) 0 j (omega arith))

  pub le_before : (n i : ℕ) → i + n ≤ at → le n (write s at xs) i ≡ le n s i
  le_before n i h = le_alike n (write s at xs) s i (λ j l u. byte_before j (omega arith))

  pub le_after : (n i : ℕ) → at + length xs ≤ i → le n (write s at xs) i ≡ le n s i
  le_after n i h = le_alike n (write s at xs) s i (λ j l u. byte_after j (omega arith))

-- to write no number changes nothing
pub write_none : (s : List ℕ) (at : ℕ) → s ≡ write s at []
unfolding write
write_none s at = sym (ap (λ (n : ℕ). take at s ++ drop n s) (add-zero at) ∙ take-append-drop at s)

pub write_byte : (s : List ℕ) (at v : ℕ) → at < length s → set s at v ≡ write s at (v ∷ [])
unfolding write
write_byte s at v h = rw add-one (set_split s at v h)

-- what was written is read back
pub le_back : (n : ℕ) (s : List ℕ) (at v : ℕ) → v < 256 ^ n → at + n ≤ length s → le n (write s at (bytes n v)) at ≡ v
le_back n s at v h k =
    let l = length_bytes n v in
    ap (le n (write s at (bytes n v))) (sym (add-zero at)) ∙ le_in s at (bytes n v) (omega arith) n 0 (omega arith) ∙ le_bytes n v h

-- ---- two's complement
pub signed_low : (n : ℕ) → n < 0x8000_0000 → signed n ≡ pos n
unfolding signed
signed_low n h = rw (lt-ltb n 0x8000_0000 h)

pub signed_high : (n : ℕ) → 0x8000_0000 ≤ n → signed n ≡ negsuc (0xffff_ffff - n)
unfolding signed
signed_high n h = rw (le-ltb n 0x8000_0000 h)

pub f64_back : (s : List ℕ) (at : ℕ) (v : Float) → T (fits binary64 v) → at + 8 ≤ length s → f64_at (write s at (bytes 8 (to_bits binary64 v))) at ≡ v
unfolding f64_at
f64_back s at v h k = ap (of_bits binary64) (le_back 8 s at (to_bits binary64 v) (to_bits-lt binary64 v h) k) ∙ of_bits-to_bits binary64 v h
