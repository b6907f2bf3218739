use Rattle.vlog_driver.proofs.Targets.{body_named}
use Rattle.vlog_driver.proofs.latches.laws.written_nets_are_named.Goals as goal

pub returns : goal.returns
returns c = λ r a m k h. body_named r m k a.body h
