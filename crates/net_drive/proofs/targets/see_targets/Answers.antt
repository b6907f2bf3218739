use Rattle.std.proofs.Common.{ap, ◌∙◌}
use Rattle.net_code.specs.Targets.{targets}
use Rattle.net_code.proofs.TargetRows.{branch_targets}
use Rattle.net_drive.proofs.targets.see_targets.Goals as goal

pub returns : goal.returns
returns c = λ a h. ap targets h ∙ branch_targets c.args.guards.now c.args.otherwise.now
