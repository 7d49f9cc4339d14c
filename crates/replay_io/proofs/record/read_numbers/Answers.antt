use Rattle.std.proofs.Common.{◌≡◌, ℕ, ◌+◌, ◌<◌, List, [], ◌∷◌, ◌++◌, length, take, set, sym, ap, ◌∙◌, subst, arith, rules}
use native.Mathlib.Numerals.{add-one}
use lib.ListN.{length-replicate}
use lib.Seq.{take-suc-set, take_all}
use Rattle.std.proofs.KnownBytes.{Consumes-nil, Consumes-trans}
use Rattle.std.proofs.lemmas.Grind.{flat_map-append}
use Rattle.std.specs.Int.{w32, to_le_bytes}
use Rattle.std.specs.List.{flat_map}
use Rattle.std.specs.Io.KnownBytes.{Consumes}
use Rattle.replay_io.proofs.record.read_numbers.Goals as goal

-- the bytes of one number more
bytes_more : (items : List ℕ) (i n : ℕ) → i < length items → flat_map (to_le_bytes w32) (take (i + 1) (set items i n)) ≡ flat_map (to_le_bytes w32) (take i items) ++ to_le_bytes w32 n
bytes_more items i n inside =
    rw (add-one, take-suc-set items i n inside) (flat_map-append (to_le_bytes w32) (take i items) (n ∷ []))

pub loop-number-init : goal.loop-number-init
loop-number-init g c = record { kept = length-replicate _ _; consumed = Consumes-nil _ }

pub loop-number-preserved : goal.loop-number-preserved
loop-number-preserved g c =
    let i = c.loop-number.number-index in
    let items = c.loop-number.number-items in
    let room = c.read_full.new.room in
    let n = c.number_of.result in
    let four : length room ≡ 4 = search rules in
    let number : to_le_bytes w32 n ≡ take c.read_full.result room =
    c.number_of.ensures ∙ sym (take_all c.read_full.result room (omega (arith, four, c.if-read_full-lt4.false))) in
    record {
      kept = search rules;
      consumed = subst (Consumes _ _) (sym (bytes_more items i n (search rules))) (Consumes-trans _ _ _ _ _ c.loop-number.invariant.consumed (subst (Consumes _ _) (sym number) c.read_full.ensures.bytes));
    }

pub returns : goal.returns
returns g c = subst (Consumes _ _) (ap (flat_map (to_le_bytes w32)) (take_all c.loop-number.number-index c.loop-number.number-items (omega (arith, c.loop-number.invariant.kept, c.loop-number-test.false)))) c.loop-number.invariant.consumed
