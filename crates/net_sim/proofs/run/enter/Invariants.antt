use Rattle.std.proofs.Common.{◌≡◌, ◌≤◌, ◌++◌, drop, take}
use Rattle.net_order.specs.Run.{entered}
use Rattle.net_sim.proofs.run.enter.Given as goal

abbrev pub invariant-loop-k : goal.invariant-loop-k
invariant-loop-k l = record {
  same : take l.k l.nets ++ entered (drop l.k l.ports) (drop l.next l.pins) (drop l.k l.nets) ≡ entered l.ports l.pins l.initial.nets;
  few : l.next ≤ l.k;
}
