-- A signed number and several f64 as parts of a run of writes. Assumes nothing.
use mathlib.Core.Path.{◌≡◌, refl, sym, ap, ◌∙◌}
use Prim.Native.Nat.{ℕ, ◌+◌, ◌*◌, ◌≤◌, ◌<◌}
use native.Mathlib.Omega.{arith}
use mathlib.Core.List.{List}
use native.Mathlib.Nat.{add-zero}
use native.Mathlib.Numerals.{add-one}
use lib.ListN.{length, take, get_or, take-append-drop}
use lib.Seq.{length-take-le, take-suc}
use lib.IntN.{ℤ, pos, negsuc}
use lib.Ieee.{Float, nan, binary64, to_bits}
use mir.Syntax.{w32}
use mir.Val.{SFits, to_z, of_z}
use mir.ValLaws.{to_z-of_z}
use Rattle.wire.proofs.Run.{Wrote, wrote, then}
use Rattle.wire.specs.Bytes.{bytes, write}
use Rattle.wire.specs.Laws.Bytes.{length_bytes}
use Rattle.sheet_writer.specs.Sheet.{unsigned, float_bytes, records_bytes}
use Rattle.sheet_writer.specs.Laws.Records.{length_records, records_more}

-- a signed one, as the code passes it on
pub wrote_signed : (z : ℤ) → SFits w32 z → {s t : List ℕ} {at : ℕ} → t ≡ write s at (bytes 4 (unsigned (to_z w32 (of_z w32 z)))) → Wrote 4 s t at (bytes 4 (unsigned z))
wrote_signed z f e = wrote 4 (unsigned z) (rw (to_z-of_z w32 z f) at e)

-- two's complement
pub cast_unsigned_is : (z : ℤ) → of_z w32 z ≡ unsigned z
cast_unsigned_is (pos n) = refl
cast_unsigned_is (negsuc n) = omega arith

pub wrote_floats : (xs : List Float) {s t : List ℕ} {at : ℕ} → t ≡ write s at (records_bytes float_bytes xs) → Wrote (8 * length xs) s t at (records_bytes float_bytes xs)
wrote_floats xs e = record { long = length_records float_bytes 8 (λ x. length_bytes 8 (to_bits binary64 x)) xs; same = e }

-- ---- the loop over several f64: the first i of them stand there
module _ (xs : List Float) (s : List ℕ) (at : ℕ) where
  abbrev pub Floats : ℕ → List ℕ → Type 0
  Floats i t = t ≡ write s at (records_bytes float_bytes (take i xs))

  pub floats_begin : Floats 0 s
  unfolding records_bytes write
  floats_begin = rw add-zero (sym (take-append-drop at s))

  pub floats_go_on : (i : ℕ) {t u : List ℕ} → Floats i t → u ≡ write t (at + 8 * i) (float_bytes (get_or xs i nan)) → i < length xs → at + 8 * length xs ≤ length s → Floats (i + 1) u
  floats_go_on i e f h room =
      let n : length (take i xs) ≡ i = length-take-le i xs (omega arith) in
      let w = then (wrote_floats (take i xs) e) (wrote 8 (to_bits binary64 (get_or xs i nan)) f) (omega arith) (omega arith) in
      w.same ∙ ap (write s at) (sym (rw (add-one, take-suc xs i nan h) (records_more float_bytes (take i xs) (get_or xs i nan))))
