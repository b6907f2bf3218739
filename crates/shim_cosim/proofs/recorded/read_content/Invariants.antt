use Rattle.std.proofs.Common.{◌≡◌, get_or}
use Rattle.net_design.specs.Pins.{outputs}
use Rattle.replay_run.specs.trace_model.Row.{replaced}
use Rattle.shim_gen.specs.shim_trees.Pieces.{upto}
use Rattle.shim_cosim.proofs.recorded.read_content.Given as goal

abbrev pub invariant-loop-i : goal.invariant-loop-i
invariant-loop-i g l =
    l.contents ≡ replaced l.fn.contents l.at
    (upto (λ k. get_or (outputs (g.B.Block.design l.block) (g.B.Block.shown l.block)) k 0) l.port l.i)
