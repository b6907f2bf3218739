use Rattle.std.proofs.lemmas.Result.{err_from_is_err_and}
use Rattle.vlog_size.specs.Names.{readable_in}
use Rattle.vlog_scope.proofs.Refused.{port_refused}
use Rattle.vlog_scope.proofs.faults.ports_fault.Goals as goal

pub returns-in_err-port_fault : goal.returns-in_err-port_fault
returns-in_err-port_fault c =
    let p = err_from_is_err_and c.from_residual.result c.from_residual.ensures.1 in
    rw (p.1, p.2)
    (port_refused c.args.kind (readable_in c.args.view.now) c.loop-port.extent c.port_extent-extent.result c.args.ports.now
    c.loop-port.port-index c.port-item.result _ _ c.loop-port-test.true c.port-item.is c.port_extent-extent.ensures
    c.in_err-port_fault.ensures c.loop-port.invariant)
