use Rattle.vlog_driver.proofs.Means.{found, none}
use Rattle.vlog_driver.proofs.latches.laws.no_latch_means.Goals as goal

pub returns-clause-found : goal.returns-clause-found
returns-clause-found c = λ writes names adds reads line nets. found writes names adds reads line nets

pub returns-clause-none : goal.returns-clause-none
returns-clause-none c = λ writes names adds reads line nets. none writes names adds reads line nets
