use Rattle.std.proofs.Common.{refl}
use Rattle.shim_cosim.proofs.FedInputs.{need_more}
use Rattle.shim_cosim.proofs.fed_inputs.enter_needs.Goals as goal

pub loop-j-preserved : goal.loop-j-preserved
loop-j-preserved c =
    need_more c.args.pins.now c.loop-j.pins _ c.args.needs.now c.args.at c.loop-j.j c.from.result c.loop-j-test.true c.requires
    c.from.ensures c.loop-j.invariant refl
