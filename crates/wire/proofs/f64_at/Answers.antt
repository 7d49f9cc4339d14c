-- `wire::f64_at` meets its contract: the float is that of the number read, whose pattern is no NaN's. Assumes nothing.
use mathlib.Core.Path.{sym, ap, subst}
use Prim.Native.Nat.{ℕ}
use mathlib.Core.Bool.{not}
use lib.Dec.{T}
use lib.Ieee.{binary64, of_bits, nan_bits}
use Rattle.wire.specs.Bytes.{f64_at, is_number}
use Rattle.wire.proofs.f64_at.Goals as goal

pub float_from_bits-result : goal.float_from_bits-result
unfolding is_number
float_from_bits-result c = subst (λ (n : ℕ). T (not (nan_bits binary64 n))) (sym c.u64_at.ensures) c.requires.t

pub returns : goal.returns
unfolding f64_at
returns c = ap (of_bits binary64) c.u64_at.ensures
