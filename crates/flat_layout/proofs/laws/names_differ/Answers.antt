use Rattle.flat_layout.proofs.Distinct.{names_differ}
use Rattle.flat_layout.proofs.laws.names_differ.Goals as goal

pub returns : goal.returns
returns c = names_differ
