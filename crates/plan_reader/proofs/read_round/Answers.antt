-- `plan_reader::read_round` meets its contract. Assumes nothing.
use Rattle.std.proofs.Common.{ap, ◌∙◌, ◌<◌, length, length-set, arith}
use Rattle.wire.specs.Laws.Bytes.{write_byte}
use Rattle.sheet.specs.Fleet.{index_of}
use Rattle.plan.specs.Read.{id_at, first_stop_at}
use Rattle.plan_reader.proofs.Rounding.{unknown, broken, goes_on}
use Rattle.plan_reader.proofs.read_round.Goals as goal

pub returns-in_err-index-clause-rounds_as : goal.returns-in_err-index-clause-rounds_as
unfolding id_at
returns-in_err-index-clause-rounds_as c = let p = c.requires in
    rw c.from_residual.ensures (unknown p.rounds_read p.k_bound.0 _ (c.in_err-index.ensures.value ∙ ap (index_of c.args.sheet.now) (rw c.round_place-place.ensures at c.u32_at.ensures)) (omega arith))

pub returns-in_err-end-clause-rounds_as : goal.returns-in_err-end-clause-rounds_as
unfolding first_stop_at
returns-in_err-end-clause-rounds_as c = let p = c.requires in
    rw c.from_residual-in_err-end.ensures (broken p.rounds_read p.k_bound.0 (rw (c.u16_at-first.ensures, c.round_place-place.ensures, c.in_err-end.was) at c.follow.ensures))

pub returns-clause-rounds_as : goal.returns-clause-rounds_as
unfolding id_at first_stop_at
returns-clause-rounds_as c = let p = c.requires in
    let r = p.reader_tables in
    let f = rw (c.u16_at-first.ensures, c.round_place-place.ensures, c.in_ok-end.was) at c.follow.ensures in
    let i = c.in_ok-index.ensures in
    let n = c.close_round.ensures in
    let k : c.args.k < length c.args.tables.now.ends.now = omega (arith, r) in
    let l : c.args.k < length c.args.tables.now.vehicles.now = omega (arith, r) in
    rw (n.stops_kept, n.ends_after.0, n.ends_after.1, ← write_byte c.args.tables.now.ends.now c.args.k c.in_ok-end.end k, ← write_byte c.args.tables.now.vehicles.now c.args.k c.in_ok-index.index l)
    (goes_on p.rounds_read p.k_bound.0 c.follow.new.stops c.in_ok-end.end c.in_ok-index.index f r.rows c.follow.auto.stops k l (i.value ∙ ap (index_of c.args.sheet.now) (rw c.round_place-place.ensures at c.u32_at.ensures)) i.bound)

pub returns-clause-as_long : goal.returns-clause-as_long
returns-clause-as_long c = let n = c.close_round.ensures in
    record {
      stopped = rw n.stops_kept c.follow.auto.stops;
      ended = rw (n.ends_after.0, ← write_byte c.args.tables.now.ends.now c.args.k c.in_ok-end.end (omega (arith, c.requires.reader_tables, c.requires.k_bound))) (length-set c.args.tables.now.ends.now c.args.k c.in_ok-end.end);
      driven = rw (n.ends_after.1, ← write_byte c.args.tables.now.vehicles.now c.args.k c.in_ok-index.index (omega (arith, c.requires.reader_tables, c.requires.k_bound))) (length-set c.args.tables.now.vehicles.now c.args.k c.in_ok-index.index);
    }
