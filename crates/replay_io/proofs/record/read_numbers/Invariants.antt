-- The bytes of the numbers so far are what was read of the input.
use Rattle.std.proofs.Common.{◌≡◌, length, take}
use Rattle.std.specs.Int.{w32, to_le_bytes}
use Rattle.std.specs.List.{flat_map}
use Rattle.std.specs.Io.KnownBytes.{Consumes}
use Rattle.replay_io.proofs.record.read_numbers.Given as goal

abbrev pub invariant-loop-number : goal.invariant-loop-number
invariant-loop-number g l = record {
  kept : length l.number-items ≡ l.number-index-end;
  consumed : Consumes (g.R.Read.remaining l.initial.input) (g.R.Read.remaining l.input) (flat_map (to_le_bytes w32) (take l.number-index l.number-items));
}
