use Rattle.shim_step.proofs.Standing.{nets_stand, regs_are_held}
use Rattle.shim_step.proofs.Initial.{nets_begin}
use Rattle.shim_step.proofs.laws.nets_stand.Goals as goal

pub returns-clause-nets : goal.returns-clause-nets
returns-clause-nets c = nets_stand

pub returns-clause-held : goal.returns-clause-held
returns-clause-held c = regs_are_held

pub returns-clause-begin : goal.returns-clause-begin
returns-clause-begin c = nets_begin
