use Rattle.std.proofs.Common.{◌≡◌, false, slice_get}
use Rattle.net_design.specs.Pins.{outputs}
use Rattle.run_model.specs.Building.{at_plug, mask_of, ready_on}
use Rattle.chan_monitor.proofs.rows.readies.Given as goal

abbrev pub invariant-loop-c : goal.invariant-loop-c
invariant-loop-c g l = l.mask ≡ mask_of (λ c. at_plug false
    (ready_on l.offers (outputs (g.B.Block.design l.block) (g.B.Block.shown l.block)) c) (slice_get l.channels c) (slice_get l.plugs c)) l.c
