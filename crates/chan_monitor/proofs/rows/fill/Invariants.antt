use Rattle.net_design.specs.Pins.{outputs}
use Rattle.chan_monitor.proofs.Filling.{AreFilled}
use Rattle.chan_monitor.proofs.rows.fill.Given as goal

abbrev pub invariant-loop-c : goal.invariant-loop-c
invariant-loop-c g l =
    AreFilled l.channels l.plugs l.offers (outputs (g.B.Block.design l.block) (g.B.Block.shown l.block)) l.contents l.c l.at
