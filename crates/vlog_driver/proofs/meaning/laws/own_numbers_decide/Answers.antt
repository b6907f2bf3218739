use Rattle.vlog_driver.proofs.SameHolds.{assigned_alike, settled_alike, updated_alike}
use Rattle.vlog_driver.proofs.meaning.laws.own_numbers_decide.Goals as goal

pub returns-clause-assigned : goal.returns-clause-assigned
returns-clause-assigned c = assigned_alike

pub returns-clause-settled : goal.returns-clause-settled
returns-clause-settled c = settled_alike

pub returns-clause-updated : goal.returns-clause-updated
returns-clause-updated c = updated_alike
