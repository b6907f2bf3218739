use Rattle.std.proofs.Common.{◌≡◌}
use Rattle.net_design.specs.Pins.{outputs}
use Rattle.run_model.specs.Building.{mask_of, ready_at}
use Rattle.run_reference.proofs.row.readies.Given as goal

abbrev pub invariant-loop-c : goal.invariant-loop-c
invariant-loop-c g l = l.mask ≡ mask_of (ready_at l.map l.offers (outputs (g.B.Block.design l.block) (g.B.Block.shown l.block))) l.c
