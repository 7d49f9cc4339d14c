-- `probe::asked::driver_of` meets its contract. Assumes nothing.
use mathlib.Core.Path.{sym, ◌∙◌}
use native.Mathlib.Omega.{arith}
use Rattle.probe.proofs.Right.{passed, vehicled}
use Rattle.probe.proofs.asked.driver_of.Goals as goal

pub new-sheet-requires : goal.new-sheet-requires
new-sheet-requires c = (vehicled _ _ (passed c.askable.ensures c.if-not-askable.false)).sheet

pub vehicle_at-requires : goal.vehicle_at-requires
vehicle_at-requires c = let r = vehicled _ _ (passed c.askable.ensures c.if-not-askable.false) in rw c.new-sheet.ensures r.vehicle

pub limits_at-requires : goal.limits_at-requires
limits_at-requires c = let r = vehicled _ _ (passed c.askable.ensures c.if-not-askable.false) in rw c.new-sheet.ensures (r.vehicle, omega (arith, r.home))

pub returns : goal.returns
returns c = record {
  asked = sym c.askable.ensures ∙ c.if-not-askable.false;
  right = vehicled _ _ (passed c.askable.ensures c.if-not-askable.false);
  same = rw (c.vehicle_at.ensures.value, c.limits_at.ensures, c.rows.ensures.value, c.new-sheet.ensures);
}
