use Rattle.vlog_driver.proofs.OneMask.{mask_read}
use Rattle.vlog_driver.proofs.latches.code.is_read.Goals as goal

pub returns : goal.returns
returns c = mask_read c.args.reads.now c.args.net c.mask.result c.mask.ensures c.mask.type_inv
