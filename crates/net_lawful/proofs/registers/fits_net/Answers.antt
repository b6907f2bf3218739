use Rattle.net_lawful.proofs.RegisterLaws.{framed_width}
use Rattle.net_lawful.proofs.registers.fits_net.Goals as goal

pub fits-requires : goal.fits-requires
fits-requires c = rw c.net_width.ensures (framed_width c.args.design.now c.requires c.args.register.net)
