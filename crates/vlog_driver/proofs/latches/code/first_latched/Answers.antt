use Rattle.std.proofs.Common.{◌∙◌}
use Rattle.vlog_driver.proofs.Answered.{code_least}
use Rattle.vlog_driver.proofs.latches.code.first_latched.Goals as goal

pub returns : goal.returns
returns c =
    code_least c.args.code.now c.in_ok-sure.sure c.in_ok-reads.reads c.as_slice-2.result.now c.as_slice.result.now c.as_slice-3.result.now
    c.args.count c.first_missed-missed.result c.first_read.result c.as_slice-2.ensures c.as_slice.ensures
    (c.as_slice-3.ensures ∙ c.in_ok-targets.ensures) c.in_ok-sure.ensures c.in_ok-reads.ensures c.first_missed-missed.ensures
    c.first_read.ensures
