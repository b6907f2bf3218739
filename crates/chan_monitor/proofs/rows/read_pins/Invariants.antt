use Rattle.std.proofs.Common.{◌≡◌, take}
use Rattle.run_model.specs.trace_model.Row.{replaced}
use Rattle.net_design.specs.Pins.{outputs}
use Rattle.chan_monitor.specs.Showing.{read}
use Rattle.chan_monitor.proofs.rows.read_pins.Given as goal

abbrev pub invariant-loop-i : goal.invariant-loop-i
invariant-loop-i g l = l.contents
    ≡ replaced l.fn.contents l.at (read (outputs (g.B.Block.design l.block) (g.B.Block.shown l.block)) (take l.i l.pins))
