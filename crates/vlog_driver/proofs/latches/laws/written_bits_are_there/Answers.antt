use Rattle.vlog_driver.proofs.There.{body_there}
use Rattle.vlog_driver.proofs.latches.laws.written_bits_are_there.Goals as goal

pub returns : goal.returns
returns c = λ r a m k h. body_there r m k a.body h
