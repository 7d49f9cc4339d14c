use Rattle.std.proofs.Common.{◌≡◌, ℕ, List, length, take, drop}
use Rattle.std.proofs.Math.Nat.{zero-add}
use Rattle.std.proofs.Math.Seq.{take-append_seam}
use Rattle.wire.specs.Bytes.{write}
use Rattle.listing_text.specs.Put.{Put}
use Rattle.listing.proofs.print_answer.Goals as goal

-- a text that was put at the start stands there
put_front : (before after xs : List ℕ) (end : ℕ) → Put before after 0 xs end → take end after ≡ xs
unfolding write
put_front before after xs end put = rw (put.same, put.long, zero-add (length xs)) (take-append_seam xs (drop (length xs) before))

pub returns : goal.returns
returns g c =
    rw (put_front _ _ _ _ c.write_answer-end.ensures) at c.write_all.ensures.bytes
