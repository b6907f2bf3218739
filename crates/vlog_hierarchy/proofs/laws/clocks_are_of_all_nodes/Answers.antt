use Rattle.vlog_hierarchy.proofs.Scoped.{same_places}
use Rattle.vlog_hierarchy.proofs.laws.clocks_are_of_all_nodes.Goals as goal

pub returns : goal.returns
returns c = λ os inputs top. same_places os inputs top
