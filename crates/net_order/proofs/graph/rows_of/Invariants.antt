use Rattle.std.proofs.Common.{take}
use Rattle.net_order.specs.Index.{AreRows}
use Rattle.net_order.proofs.graph.rows_of.Given as goal

abbrev pub invariant-loop-driver : goal.invariant-loop-driver
invariant-loop-driver l = AreRows l.writers (take l.driver-index l.drivers) l.graph
