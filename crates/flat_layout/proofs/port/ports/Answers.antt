use Rattle.std.proofs.Common.{List, length, ap, arith}
use Rattle.vlog_tree.specs.declared.module.Port.{Port}
use Rattle.flat_layout.proofs.PortList.{all_ports}
use Rattle.flat_layout.proofs.port.ports.Goals as goal

pub returns : goal.returns
returns c = all_ports c.args.scope.now c.args.top.now.ports c.loop-port.port-index c.loop-port.direction c.loop-port.ports
    (omega (arith, c.loop-port-test.false, ap (λ (l : List Port). length l) c.as_slice-port-items.ensures)) c.loop-port.invariant
