use Rattle.std.proofs.Common.{◌≡◌, ◌+◌, ◌<◌, ◌++◌, ◌∷◌, [], false, ℕ, List, length, take, get_or, Some, IfSome, sym, ap, ◌∙◌, subst}
use Rattle.std.proofs.KnownBytes.{Appends-trans}
use Rattle.std.proofs.lemmas.Fmt.{hex_byte}
use Rattle.std.proofs.lemmas.List.{take_more}
use Rattle.std.proofs.lemmas.Grind.{flat_map-append}
use Rattle.std.specs.Io.KnownBytes.{Appends}
use Rattle.std.specs.Fmt.{styled_digits_output}
use Rattle.replay_io.specs.Lines.{hex_text, hex_pair}
use Rattle.replay_io.proofs.line.print_bytes.Goals as goal

hex_text-more : (bytes : List ℕ) (i : ℕ) → i < length bytes → hex_text (take (i + 1) bytes) ≡ hex_text (take i bytes) ++ hex_pair (get_or bytes i 0)
hex_text-more bytes i inside =
    ap hex_text (take_more bytes i 0 inside) ∙ flat_map-append hex_pair (take i bytes) (get_or bytes i 0 ∷ [])

pub loop-byte-preserved : goal.loop-byte-preserved
loop-byte-preserved g c =
    let bytes = c.args.bytes.now in
    let i = c.loop-byte.byte-index in
    let byte = get_or bytes i 0 in
    let text : styled_digits_output c.in_radix.result c.laid_out.result ≡ Some (hex_pair byte) =
    rw (c.laid_out.ensures, c.in_radix.ensures) (ap Some (hex_byte false byte (c.type_inv.bytes i).fits)) in
    let old = g.W.Write.contents c.loop-byte.out in
    let new = g.W.Write.contents c.write.new.self in
    let wrote : IfSome (Some (hex_pair byte)) (Appends old new) = subst (λ o. IfSome o (Appends old new)) text c.in_ok-write.ensures.bytes in
    subst (Appends _ new) (sym (hex_text-more bytes i c.loop-byte-test.true)) (Appends-trans _ old new _ _ c.loop-byte.invariant wrote)
