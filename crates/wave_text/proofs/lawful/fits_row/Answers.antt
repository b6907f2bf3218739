use Rattle.std.proofs.Common.{refl}
use Rattle.wave_text.proofs.Fits.{fit-none, fit-more, fit-all}
use Rattle.wave_text.proofs.lawful.fits_row.Goals as goal

pub loop-n-init : goal.loop-n-init
loop-n-init c = fit-none c.args.nets.now c.args.row.now

pub loop-n-preserved : goal.loop-n-preserved
loop-n-preserved c = fit-more c.loop-n.n c.args.nets.now c.args.row.now c.index-nets-n.result c.loop-n.invariant c.index-nets-n.is
    (c.fits.ensures.0 c.if-not-fits.false)

pub returns : goal.returns
returns c = (
  λ yes. fit-all c.loop-n.n c.args.nets.now c.args.row.now c.if-row-nets.false c.loop-n-test.false c.loop-n.invariant,
  λ fits. refl,
)
