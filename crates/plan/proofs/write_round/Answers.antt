-- `plan::write_round` meets its contract. Assumes nothing.
use native.Mathlib.Omega.{arith}
use Rattle.plan.proofs.Rounding.{from, figures, rounded}
use Rattle.plan.proofs.write_round.Goals as goal

pub write_visits-progress-requires-clause-routed : goal.write_visits-progress-requires-clause-routed
write_visits-progress-requires-clause-routed c = c.requires.routed

pub write_visits-progress-requires-clause-plan_len : goal.write_visits-progress-requires-clause-plan_len
write_visits-progress-requires-clause-plan_len c = c.requires.k_bound.1

pub write_visits-progress-requires-clause-visits_writable : goal.write_visits-progress-requires-clause-visits_writable
write_visits-progress-requires-clause-visits_writable c = rw c.place_rest-placed.ensures c.requires.round_writable.visits

pub record-figures-requires : goal.record-figures-requires
record-figures-requires c = let a = c.args in
    let ok = c.requires.routed in
    (from a.sheet.now a.vehicle a.limits a.route.now c.place_rest-placed.result c.write_visits-progress.result c.place_rest-placed.ensures c.write_visits-progress.ensures.value ok, ok.home)

pub round_place-requires : goal.round_place-requires
round_place-requires c = omega (arith, c.requires.k_bound, c.requires.routed.sheet.sized.rows)

pub put_round-requires : goal.put_round-requires
put_round-requires c = let a = c.args in record {
  at_in_bounds = omega (arith, c.requires.k_bound, c.round_place.ensures, c.write_visits-progress.auto.plan);
  record_writable = rw (figures a.sheet.now a.vehicle a.limits a.route.now c.place_rest-placed.result c.write_visits-progress.result c.place_rest-placed.ensures c.write_visits-progress.ensures.value c.record-figures.result c.record-figures.ensures) c.requires.round_writable.figures;
}

pub returns : goal.returns
returns c = let a = c.args in
    let t = c.place_rest-placed in
    let w = c.write_visits-progress in
    let r = c.record-figures in record {
      value = figures a.sheet.now a.vehicle a.limits a.route.now t.result w.result t.ensures w.ensures.value r.result r.ensures;
      plan_after = rounded a.sheet.now a.vehicle a.limits a.route.now t.result w.result t.ensures w.ensures.value r.result r.ensures a.k c.link.result a.plan.now w.new.plan c.put_round.new.plan c.link.ensures w.ensures.plan_after (rw c.round_place.ensures at c.put_round.ensures);
    }
