use Rattle.std.proofs.Common.{refl}
use Rattle.wave_text.specs.Wave.{IsNet}
use Rattle.wave_text.proofs.Fits.{all-more, all-whole}
use Rattle.wave_text.proofs.lawful.are_nets.Goals as goal

pub loop-net-preserved : goal.loop-net-preserved
loop-net-preserved c = all-more IsNet c.args.nets.now c.loop-net.net-index c.net-item.result c.loop-net-test.true c.net-item.is c.loop-net.invariant
    (c.is_net.ensures.0 c.if-not-is_net.false)

pub returns : goal.returns
returns c = (
  λ yes. all-whole IsNet c.args.nets.now c.loop-net.net-index c.loop-net-test.false c.loop-net.invariant,
  λ all. refl,
)
