-- The library's little-endian bytes are the definitions'. Assumes nothing.
use Rattle.std.proofs.Common.{◌≡◌, ℕ, zero, suc, ◌+◌, ◌-◌, ◌/◌, ◌%◌, ◌^◌, ◌<◌, List, [], ◌∷◌, ◌++◌, get_or, take, drop, refl, sym, ap, ◌∙◌, arith, add_assoc}
use Rattle.std.proofs.Common.{inl, inr, le-ltb, pow-suc}
use Rattle.std.proofs.Math.Nat.{div-div-eq-div-mul}
use Rattle.std.proofs.lemmas.Bool.{cases_lt}
use Rattle.std.proofs.lemmas.List.{get_or-take, get_or-drop}
use Rattle.std.specs.Prelude.{negsuc}
use mir.ValLaws.{to_z_pos}
use Rattle.std.specs.Int.{w16, w32, w64, from_le_bytes, bytes_low_first, cast_signed}
use Rattle.wire.specs.Laws.Overwrite.{put_part}
use Rattle.wire.specs.Laws.Bytes.{length_bytes, signed_low, signed_high}
use Rattle.wire.specs.Bytes.{le, bytes, write, signed}

pub two : (s : List ℕ) (at : ℕ) → from_le_bytes w16 (get_or s at 0 ∷ get_or s (at + 1) 0 ∷ []) ≡ le 2 s at
unfolding le
two s at = omega arith

pub four : (s : List ℕ) (at : ℕ) → from_le_bytes w32 (get_or s at 0 ∷ get_or s (at + 1) 0 ∷ get_or s (at + 2) 0 ∷ get_or s (at + 3) 0 ∷ []) ≡ le 4 s at
unfolding le
four s at = simp add_assoc (omega arith)

eight : (s : List ℕ) (at : ℕ) → from_le_bytes w64 (get_or s at 0 ∷ get_or s (at + 1) 0 ∷ get_or s (at + 2) 0 ∷ get_or s (at + 3) 0 ∷ get_or s (at + 4) 0 ∷ get_or s (at + 5) 0 ∷ get_or s (at + 6) 0 ∷ get_or s (at + 7) 0 ∷ []) ≡ le 8 s at
unfolding le
eight s at = simp add_assoc (omega arith)

-- byte i from k bytes of n upward
low_first : (i k n : ℕ) → bytes_low_first (suc i) k n ≡ bytes k (n / 256 ^ suc i)
unfolding bytes
low_first i zero n = refl
low_first i (suc k) n =
    let e : n / 256 ^ suc (suc i) ≡ n / 256 ^ suc i / 256 = simp (div-div-eq-div-mul, pow-suc) in
    ap (◌∷◌ (n / 256 ^ suc i % 256)) (low_first (suc i) k n ∙ ap (bytes k) e)

-- a number's bytes in the place of as many others
pub put_bytes : (k : ℕ) (s : List ℕ) (at n v : ℕ) (xs : List ℕ) → n ≡ suc k → xs ≡ bytes_low_first 0 (suc k) v → take at s ++ (xs ++ drop n (drop at s)) ≡ write s at (bytes (suc k) v)
unfolding bytes
put_bytes k s at n v xs p q =
    let e : xs ≡ bytes (suc k) v = q ∙ ap (◌∷◌ (v % 256)) (low_first 0 k v) in
    rw e (put_part s at n (bytes (suc k) v) (length_bytes (suc k) v ∙ sym p))

pub as_signed : (n : ℕ) → cast_signed w32 n ≡ signed n
as_signed n = elim (cases_lt n 0x8000_0000) [
  | inl h ↦ to_z_pos w32 n h ∙ sym (signed_low n h)
  | inr h ↦ rw (le-ltb n 0x8000_0000 h) (ap negsuc (let e : 2 ^ 32 - suc n ≡ 0xffff_ffff - n = omega arith in e) ∙ sym (signed_high n h))
]

pub eight_taken : (s : List ℕ) (at : ℕ) (xs : List ℕ) → xs ≡ take (at + 8 - at) (drop at s) → from_le_bytes w64 xs ≡ le 8 s at
eight_taken s at xs h = let z : at + 0 ≡ at = omega arith in let e : at + 8 - at ≡ 8 = omega arith in rw (h, e) (rw (here 0 (omega arith), z, here 1 (omega arith), here 2 (omega arith), here 3 (omega arith), here 4 (omega arith), here 5 (omega arith), here 6 (omega arith), here 7 (omega arith)) (eight s at))
  where
    here : (i : ℕ) → i < 8 → get_or (take 8 (drop at s)) i 0 ≡ get_or s (at + i) 0
    here i l = get_or-take 8 (drop at s) i 0 l ∙ get_or-drop at s i 0
