-- What has been written is the text of the bytes so far.
use Rattle.std.proofs.Common.{take}
use Rattle.std.specs.Io.KnownBytes.{Appends}
use Rattle.replay_io.specs.Lines.{hex_text}
use Rattle.replay_io.proofs.line.print_bytes.Given as goal

abbrev pub invariant-loop-byte : goal.invariant-loop-byte
invariant-loop-byte g l =
    Appends (g.W.Write.contents l.initial.out) (g.W.Write.contents l.out) (hex_text (take l.byte-index l.bytes))
