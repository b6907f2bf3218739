use Rattle.std.proofs.Common.{◌≡◌, take}
use Rattle.net_design.specs.Pins.{outputs}
use Rattle.shim_cosim.proofs.shown_row.read_outputs.Given as goal

abbrev pub invariant-loop-port : goal.invariant-loop-port
invariant-loop-port g l = take l.port l.numbers ≡ take l.port (outputs (g.B.Block.design l.block) (g.B.Block.shown l.block))
