use Rattle.net_design.proofs.LawfulCode.{net_width_small}
use Rattle.net_reference.proofs.reference.fits_net.Goals as goal

pub fits-requires : goal.fits-requires
fits-requires c = rw c.net_width.ensures (net_width_small c.args.design.now c.requires c.args.m)
