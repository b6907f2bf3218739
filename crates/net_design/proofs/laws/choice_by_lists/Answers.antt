use Rattle.net_design.proofs.Rows.{updates_branch}
use Rattle.net_design.proofs.laws.choice_by_lists.Goals as goal

pub returns : goal.returns
returns c = updates_branch
