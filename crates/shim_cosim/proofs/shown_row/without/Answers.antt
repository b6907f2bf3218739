use Rattle.std.proofs.Common.{refl}
use Rattle.shim_cosim.proofs.ShownRow.{has_without}
use Rattle.shim_cosim.proofs.shown_row.without.Goals as goal

pub returns : goal.returns
returns c = has_without c.args.mask c.args.others _ c.ranges.mask.fits c.ranges.others.fits refl
