-- `fleet_limiter::refit` meets its contract. Assumes nothing.
use Rattle.std.proofs.Common.{rules}
use Rattle.fleet_limiter.proofs.Refitting.{rests, enters, fewer, goes_on}
use Rattle.fleet_limiter.proofs.refit.Goals as goal

pub returns-in_default-clause-held : goal.returns-in_default-clause-held
returns-in_default-clause-held c = rests c.loop-j.invariant.refitting (rw (c.as_ref.ensures.stops, c.as_ref.ensures.ends, c.as_ref.ensures.vehicles) at c.choose.ensures) c.in_default.is

pub put_in-requires : goal.put_in-requires
put_in-requires c = enters c.loop-j.invariant.refitting (rw (c.as_ref.ensures.stops, c.as_ref.ensures.ends, c.as_ref.ensures.vehicles) at c.choose.ensures) c.in-Some.is

pub loop-j-smaller : goal.loop-j-smaller
loop-j-smaller c = fewer c.loop-j.invariant.refitting (rw (c.as_ref.ensures.stops, c.as_ref.ensures.ends, c.as_ref.ensures.vehicles) at c.choose.ensures) c.in-Some.is c.put_in.ensures.held c.put_in.ensures.vehicles_kept

pub loop-j-preserved : goal.loop-j-preserved
loop-j-preserved c = record { as_long = search rules; refitting = goes_on c.loop-j.invariant.refitting (rw (c.as_ref.ensures.stops, c.as_ref.ensures.ends, c.as_ref.ensures.vehicles) at c.choose.ensures) c.in-Some.is c.put_in.ensures.held c.put_in.ensures.vehicles_kept c.put_in.ensures.behind_kept; lent = search rules }
