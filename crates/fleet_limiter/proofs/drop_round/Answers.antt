-- `fleet_limiter::drop_round` meets its contract. Assumes nothing.
use Rattle.std.proofs.Common.{rules}
use Rattle.fleet_limiter.proofs.Dropping.{leaves, after_tables, drops, stays}
use Rattle.fleet_limiter.proofs.drop_round.Goals as goal

pub take_out-requires : goal.take_out-requires
take_out-requires c = leaves c.requires.tables c.requires.n_nonzero.0 (rw (c.as_ref.ensures.stops, c.as_ref.ensures.ends) at c.victim-round.ensures)

pub refit-requires : goal.refit-requires
refit-requires c = record { tables = after_tables c.requires.tables c.requires.n_nonzero.0 (rw (c.as_ref.ensures.stops, c.as_ref.ensures.ends) at c.victim-round.ensures) c.requires.n_nonzero.1 c.take_out.ensures.held; triable = c.requires.triable }

pub returns : goal.returns
returns c = record {
  as_long = search rules;
  lent = search rules;
  held = drops c.requires.tables c.requires.n_nonzero.0 (rw (c.as_ref.ensures.stops, c.as_ref.ensures.ends) at c.victim-round.ensures) c.requires.n_nonzero.1 c.take_out.ensures.held _ c.refit.ensures.held;
  behind_kept = stays c.requires.tables c.requires.n_nonzero.0 (rw (c.as_ref.ensures.stops, c.as_ref.ensures.ends) at c.victim-round.ensures) c.requires.n_nonzero.1 c.take_out.ensures.held _ c.take_out.ensures.behind_kept c.refit.ensures.behind_kept;
}
