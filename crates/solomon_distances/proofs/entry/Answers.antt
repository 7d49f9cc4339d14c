-- `solomon_distances::entry` meets its contract. Assumes nothing.
use native.Mathlib.Omega.{arith}
use Rattle.solomon_distances.specs.Laws.Between.{point_of}
use Rattle.solomon_distances.proofs.Filling.{entry_inside, mirror_number, mirror_root}
use Rattle.solomon_distances.proofs.entry.Goals as goal

pub overflow_mul-j : goal.overflow_mul-j
overflow_mul-j c = let a = c.args in let p = c.requires in omega (arith, entry_inside a.sheet.now a.rows a.at p.filled_to.asked a.j a.i p.i_lt_rows.1 p.i_lt_rows.0)

pub overflow_add-j : goal.overflow_add-j
overflow_add-j c = let a = c.args in let p = c.requires in omega (arith, entry_inside a.sheet.now a.rows a.at p.filled_to.asked a.j a.i p.i_lt_rows.1 p.i_lt_rows.0)

pub overflow_mul-j-then-j-i : goal.overflow_mul-j-then-j-i
overflow_mul-j-then-j-i c = let a = c.args in let p = c.requires in omega (arith, entry_inside a.sheet.now a.rows a.at p.filled_to.asked a.j a.i p.i_lt_rows.1 p.i_lt_rows.0)

pub overflow_add-at : goal.overflow_add-at
overflow_add-at c = let a = c.args in let p = c.requires in omega (arith, entry_inside a.sheet.now a.rows a.at p.filled_to.asked a.j a.i p.i_lt_rows.1 p.i_lt_rows.0)

pub f64_at-requires : goal.f64_at-requires
f64_at-requires c = let a = c.args in
    let p = c.requires in
    record {
      at_in_bounds = entry_inside a.sheet.now a.rows a.at p.filled_to.asked a.j a.i p.i_lt_rows.1 p.i_lt_rows.0;
      t = mirror_number a.sheet.now a.rows a.at a.i a.j p.i_lt_rows.0 p.i_lt_rows.1 c.if-j-i.true p.filled_to;
    }

pub returns-then-j-i : goal.returns-then-j-i
returns-then-j-i c = let a = c.args in
    let p = c.requires in
    rw c.f64_at.ensures (mirror_root a.sheet.now a.rows a.at a.i a.j p.i_lt_rows.0 p.i_lt_rows.1 c.if-j-i.true p.filled_to)

pub squared-requires : goal.squared-requires
squared-requires c = let a = c.args in
    let p = c.requires in
    (point_of a.sheet.now a.rows a.at p.filled_to.asked a.i p.i_lt_rows.0, point_of a.sheet.now a.rows a.at p.filled_to.asked a.j p.i_lt_rows.1)

pub returns : goal.returns
returns c = rw c.squared.ensures at c.square_root.ensures
