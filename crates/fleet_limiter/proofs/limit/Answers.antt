-- `fleet_limiter::limit` meets its contract. Assumes nothing.
use native.Mathlib.Omega.{arith}
use Rattle.fleet_limiter.proofs.Windows.{triable, read_so, stays}
use Rattle.fleet_limiter.proofs.limit.Goals as goal

pub returns-then-rounds-greatest-clause-held : goal.returns-then-rounds-greatest-clause-held
returns-then-rounds-greatest-clause-held c = stays c.requires c.if-rounds-greatest.true

pub drop_rounds-requires : goal.drop_rounds-requires
drop_rounds-requires c = record { tables = c.requires.tables; triable = triable c.requires c.windows_in-windows.ensures (omega (arith, c.if-rounds-greatest.false)) }

pub returns-clause-held : goal.returns-clause-held
returns-clause-held c = read_so c.requires c.windows_in-windows.ensures _ c.drop_rounds.ensures.held
