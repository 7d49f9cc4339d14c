use Rattle.std.proofs.Common.{◌≡◌, ℕ, ◌+◌, ◌-◌, ◌≤◌, List, ◌++◌, length, take, drop, le_refl, sym, subst, drop_at, length-take-le, rules}
use Rattle.std.proofs.lemmas.Slice.{take-put_mid_below}
use Rattle.std.proofs.KnownBytes.{Consumes-trans}
use Rattle.std.specs.Io.KnownBytes.{Consumes}
use borrow.Rule.Slice.PartMut.{put_mid, post_of}
use lib.Seq.{take-add, take-append-le}
use Rattle.listing.proofs.read_full.Goals as goal

-- the start of a list whose part from i on, k long, was written over
take-put_mid_into : (i k n : ℕ) (xs ys : List ℕ) → i ≤ length xs → n ≤ length ys → take (i + n) (put_mid i k xs ys) ≡ take i xs ++ take n ys
take-put_mid_into i k n xs ys within fits =
    let after = post_of i k xs in
    let rest : drop i (put_mid i k xs ys) ≡ ys ++ after = drop_at (take i xs) (ys ++ after) i (length-take-le i xs within) in
    rw (take-add i n (put_mid i k xs ys), take-put_mid_below i k xs ys i (le_refl i) within, rest, take-append-le n ys after fits)

pub loop-done-preserved : goal.loop-done-preserved
loop-done-preserved g c =
    let i = c.loop-done.done in
    let written = take-put_mid_into i (length c.loop-done.room - i) c.in_ok-n.n c.loop-done.room c.read.new.buf c.loop-done.invariant.within c.in_ok-n.ensures.bound.0 in
    record {
      kept = search rules;
      within = search rules;
      consumed = subst (Consumes _ _) (sym written) (Consumes-trans _ _ _ _ _ c.loop-done.invariant.consumed c.in_ok-n.ensures.bytes.0);
    }
