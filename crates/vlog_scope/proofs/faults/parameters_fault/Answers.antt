use Rattle.std.proofs.lemmas.Result.{err_from_is_err_and}
use Rattle.vlog_size.specs.Names.{readable_in}
use Rattle.vlog_scope.proofs.Refused.{parameter_refused}
use Rattle.vlog_scope.proofs.faults.parameters_fault.Goals as goal

pub returns-in_err-parameter_fault : goal.returns-in_err-parameter_fault
returns-in_err-parameter_fault c =
    let p = err_from_is_err_and c.from_residual.result c.from_residual.ensures.1 in
    rw (p.1, p.2)
    (parameter_refused c.args.kind c.args.scope.now c.loop-p.count (readable_in c.view_at-view.result) c.loop-p.extent
    c.parameter_extent-extent.result c.args.list.now c.loop-p.p-index c.p-item.result _ _ c.loop-p-test.true c.p-item.is
    c.view_at-view.ensures c.parameter_extent-extent.ensures c.in_err-parameter_fault.ensures c.loop-p.invariant)
