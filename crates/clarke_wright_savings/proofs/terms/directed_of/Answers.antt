-- `clarke_wright_savings::terms::directed_of` meets its contract. Assumes nothing.
use Rattle.clarke_wright_savings.specs.Savings.{directed_of}
use Rattle.clarke_wright_savings.proofs.terms.directed_of.Goals as goal

pub returns : goal.returns
unfolding directed_of
returns c = rw (c.terms_of-common.ensures, c.symmetric_among-symmetric.ensures)
