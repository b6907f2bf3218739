use Rattle.flat_parts.proofs.Settled.{settled_by_laws, narrow_by_laws}
use Rattle.flat_parts.proofs.laws.settled_alike.Goals as goal

pub returns-clause-settled : goal.returns-clause-settled
returns-clause-settled c = settled_by_laws

pub returns-clause-narrow : goal.returns-clause-narrow
returns-clause-narrow c = narrow_by_laws
