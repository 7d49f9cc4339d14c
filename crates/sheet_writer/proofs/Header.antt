-- The header as the code writes it: method and time byte as one number, the ten zero bytes as two. Assumes nothing.
use mathlib.Core.Path.{◌≡◌}
use Prim.Native.Nat.{ℕ, ◌+◌, ◌*◌, ◌/◌, ◌%◌, ◌<◌}
use native.Mathlib.Omega.{arith}
use mathlib.Core.List.{◌++◌}
use Rattle.wire.specs.Bytes.{bytes}
use Rattle.sheet_writer.specs.Sheet.{header_record}

pub header_written : (rows vehicles method times : ℕ) → method < 256 → bytes 2 rows ++ (bytes 2 vehicles ++ (bytes 2 (method + 0x100 * times) ++ (bytes 2 0 ++ bytes 8 0))) ≡ header_record rows vehicles method times
unfolding header_record bytes
header_written rows vehicles method times h =
    let low : (method + 0x100 * times) % 256 ≡ method % 256 = omega arith in
    let high : (method + 0x100 * times) / 256 ≡ times = omega arith in
    rw (low, high)
