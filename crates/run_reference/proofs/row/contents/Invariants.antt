use Rattle.std.proofs.Common.{◌≡◌, ◌++◌, drop}
use Rattle.net_design.specs.Pins.{outputs}
use Rattle.run_model.specs.Building.{content_here, joined}
use Rattle.run_reference.proofs.row.contents.Given as goal

abbrev pub invariant-loop-c : goal.invariant-loop-c
invariant-loop-c g l =
    l.out ++ joined (content_here l.map l.offers (outputs (g.B.Block.design l.block) (g.B.Block.shown l.block))) l.c
    (drop l.c l.map.channels)
    ≡ joined (content_here l.map l.offers (outputs (g.B.Block.design l.block) (g.B.Block.shown l.block))) 0 l.map.channels
