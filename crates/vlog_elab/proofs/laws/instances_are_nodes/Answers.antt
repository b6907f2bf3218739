use Rattle.vlog_elab.proofs.Same.{same_nodes}
use Rattle.vlog_elab.proofs.laws.instances_are_nodes.Goals as goal

pub returns : goal.returns
returns c = same_nodes
