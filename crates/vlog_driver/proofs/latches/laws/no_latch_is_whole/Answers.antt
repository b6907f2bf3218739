use Rattle.vlog_driver.proofs.Means.{whole, own}
use Rattle.vlog_driver.proofs.latches.laws.no_latch_is_whole.Goals as goal

pub returns-clause-whole : goal.returns-clause-whole
returns-clause-whole c = λ r a code lawful bits implicit empty. whole r a code bits implicit empty lawful

pub returns-clause-own : goal.returns-clause-own
returns-clause-own c = λ r a code lawful bits implicit empty. own r a code bits implicit empty lawful
