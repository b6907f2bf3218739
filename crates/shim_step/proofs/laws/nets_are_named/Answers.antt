use Rattle.shim_step.proofs.Whole.{net_is_read, net_is_assigned, nets_are_joined}
use Rattle.shim_step.proofs.laws.nets_are_named.Goals as goal

pub returns-clause-read : goal.returns-clause-read
returns-clause-read c = net_is_read

pub returns-clause-assigned : goal.returns-clause-assigned
returns-clause-assigned c = net_is_assigned

pub returns-clause-joined : goal.returns-clause-joined
returns-clause-joined c = nets_are_joined
