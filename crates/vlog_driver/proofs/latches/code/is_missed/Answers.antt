use Rattle.vlog_driver.proofs.OneMask.{mask_missed}
use Rattle.vlog_driver.proofs.latches.code.is_missed.Goals as goal

pub returns : goal.returns
returns c = mask_missed c.args.sure.now c.args.net c.args.bits c.mask.result c.mask.ensures c.ranges.bits.fits c.mask.type_inv
