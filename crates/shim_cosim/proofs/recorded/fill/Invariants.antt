use Rattle.net_design.specs.Pins.{outputs}
use Rattle.shim_cosim.proofs.Entering.{AreFilled}
use Rattle.shim_cosim.proofs.recorded.fill.Given as goal

abbrev pub invariant-loop-channel : goal.invariant-loop-channel
invariant-loop-channel g l =
    AreFilled l.channels l.offers (outputs (g.B.Block.design l.block) (g.B.Block.shown l.block)) l.contents l.channel-index l.at l.seat
