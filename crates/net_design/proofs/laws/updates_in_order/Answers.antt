use Rattle.net_design.proofs.UpdateLaws.{apply_both}
use Rattle.net_design.proofs.laws.updates_in_order.Goals as goal

pub returns : goal.returns
returns c = apply_both
