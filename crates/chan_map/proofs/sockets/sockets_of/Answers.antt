use Rattle.std.proofs.Common.{◌∙◌, ap, ◌+◌}
use Rattle.net_design.specs.declared.design.Direction.TheVariants.{Input, Output}
use Rattle.net_design.specs.Settled.{same_direction}
use Rattle.chan_map.proofs.Table.{counted, one_more, place_counted, next_found}
use Rattle.chan_map.proofs.sockets.sockets_of.Goals as goal

pub loop-port-preserved : goal.loop-port-preserved
loop-port-preserved c =
    let ports = c.args.ports.now in let p = c.index-ports-port.result in let inv = c.loop-port.invariant in
    record {
      inputs = ap (λ k. c.loop-port.inputs + k) c.one_if_same-inputs.ensures
          ∙ counted Input ports c.loop-port.port c.loop-port.inputs p c.loop-port-test.true c.index-ports-port.is inv.inputs;
      outputs = ap (λ k. c.loop-port.outputs + k) c.one_if_same-outputs.ensures
          ∙ counted Output ports c.loop-port.port c.loop-port.outputs p c.loop-port-test.true c.index-ports-port.is inv.outputs;
      few = (
        one_more (same_direction Input p.direction) _ _ _ c.one_if_same-inputs.ensures inv.few.0,
        one_more
            (same_direction Output p.direction) _ _ _ c.one_if_same-outputs.ensures inv.few.1,
      );
      found = λ q. next_found ports c.loop-port.port c.count_of-place.result p q _ _ _ c.loop-port-test.true c.index-ports-port.is
          (place_counted ports c.loop-port.port c.loop-port.inputs c.loop-port.outputs c.count_of-place.result p.direction inv.inputs
          inv.outputs c.count_of-place.ensures)
          (inv.found q) (rw c.as_slice.ensures at (c.in_ok-add_socket.ensures q));
    }
