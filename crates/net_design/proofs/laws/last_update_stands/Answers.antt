use Rattle.net_design.specs.declared.act.Timing.TheVariants.{Blocking}
use Rattle.net_design.specs.Updates.{block_updates}
use Rattle.net_design.proofs.LastLaws.{last_updates}
use Rattle.net_design.proofs.laws.last_update_stands.Goals as goal

pub returns-clause-updates : goal.returns-clause-updates
returns-clause-updates c = last_updates

pub returns-clause-block : goal.returns-clause-block
returns-clause-block c = λ acts v. last_updates (block_updates Blocking acts v) v
