use Rattle.std.proofs.Common.{◌≡◌}
use Rattle.net_design.specs.Pins.{outputs}
use Rattle.replay_run.specs.run_model.Building.{mask_of}
use Rattle.shim_cosim.specs.Recorded.{is_raised, seat}
use Rattle.shim_cosim.proofs.recorded.raised.Given as goal

abbrev pub invariant-loop-c : goal.invariant-loop-c
invariant-loop-c g l = record {
  place : l.seat ≡ seat l.channels l.c;
  mask_is : l.mask ≡ mask_of (is_raised l.channels (outputs (g.B.Block.design l.block) (g.B.Block.shown l.block)) l.spot) l.c;
}
