use Rattle.std.proofs.Common.{arith}
use Rattle.flat_layout.proofs.Entries.{all_nets}
use Rattle.flat_layout.proofs.net.nets.Goals as goal

pub returns : goal.returns
returns c =
    all_nets c.args.instances.now c.loop-number.number c.loop-number.nets (omega (arith, c.loop-number-test.false)) c.loop-number.invariant
