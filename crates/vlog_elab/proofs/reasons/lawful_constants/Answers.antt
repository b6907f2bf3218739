use Rattle.std.proofs.lemmas.Result.{err_from_is_err_and}
use Rattle.vlog_elab.specs.Reasons.{instance_consts}
use Rattle.vlog_elab.proofs.Firsts.{found_here}
use Rattle.vlog_elab.proofs.reasons.lawful_constants.Goals as goal

pub returns-in_err-instance_consts : goal.returns-in_err-instance_consts
returns-in_err-instance_consts c =
    let p = err_from_is_err_and c.from_residual.result c.from_residual.ensures.1 in
    rw (p.1, p.2)
    (found_here instance_consts c.args.list.now c.loop-instance.instance-index c.instance-item.result c.in_err-instance_consts.field-0.0
    c.loop-instance-test.true c.instance-item.is c.loop-instance.invariant c.in_err-instance_consts.ensures)
