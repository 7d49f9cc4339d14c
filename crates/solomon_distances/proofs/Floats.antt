-- The bytes of a list of f64, one more at their end, and an f64 read back from them. Assumes nothing.
use mathlib.Core.Path.{◌≡◌, sym, subst}
use Prim.Native.Nat.{ℕ, ◌+◌, ◌*◌, ◌≤◌, ◌<◌}
use native.Mathlib.Omega.{arith}
use mathlib.Core.Bool.{Bool, not}
use mathlib.Core.List.{List, [], ◌∷◌, ◌++◌}
use lib.Dec.{T}
use lib.ListN.{length, get_or, take, drop}
use lib.Seq.{length-take-le}
use lib.Ieee.{Float, fin, inf, nan, binary64, fits, is_nan, of_bits}
use lib.Ieee.Bits.{nan_bits_is}
use Rattle.wire.specs.Bytes.{write, u64_at, f64_at, is_number}
use Rattle.sheet_writer.specs.Sheet.{float_bytes, records_bytes}
use Rattle.sheet_writer.specs.Laws.Records.{length_records, records_more, stands_record}
use Rattle.sheet_writer.specs.Laws.Read.{entry_read}
use Rattle.sheet_writer.specs.Laws.Sheet.{length_float}
use Rattle.square_root.specs.ClosestRoot.{ClosestRoot, unsigned_finite}

abbrev pub floats_bytes : List Float → List ℕ
floats_bytes = records_bytes float_bytes

pub length_floats : (xs : List Float) → length (floats_bytes xs) ≡ 8 * length xs
length_floats xs = length_records float_bytes 8 length_float xs

pub floats_more : (xs : List Float) (x : Float) → floats_bytes (xs ++ x ∷ []) ≡ floats_bytes xs ++ float_bytes x
floats_more xs x = records_more float_bytes xs x

pub float_back : (s : List ℕ) (at : ℕ) (xs : List Float) (d : Float) (m : ℕ) → at + 8 * length xs ≤ length s → m < length xs → T (fits binary64 (get_or xs m d)) → f64_at (write s at (floats_bytes xs)) (at + 8 * m) ≡ get_or xs m d
unfolding write
float_back s at xs d m room h f =
    (entry_read (write s at (floats_bytes xs)) (at + 8 * m) (get_or xs m d) f
    (stands_record float_bytes 8 length_float (take at s) (drop (at + length (floats_bytes xs)) s) at (length-take-le at s (omega arith)) xs m d h)
    ).number

-- ---- a root is a number
pub root_number : (n : ℕ) (x : Float) → ClosestRoot n x → T (not (is_nan x))
unfolding is_nan
root_number n x r = go x r.plain
  where
    go : (x : Float) → T (unsigned_finite x) → T (not (is_nan x))
    go (fin s m e) p = tt
    go nan p = elim p [ ]
    go (inf _) p = elim p [ ]

pub root_read : (n : ℕ) (s : List ℕ) (at : ℕ) → ClosestRoot n (f64_at s at) → T (is_number s at)
unfolding f64_at is_number
root_read n s at r = subst (λ (b : Bool). T (not b)) (sym (nan_bits_is binary64 (u64_at s at))) (root_number n (of_bits binary64 (u64_at s at)) r)
