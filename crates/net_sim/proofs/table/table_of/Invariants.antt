use Rattle.net_sim.specs.Table.{IsTable}
use Rattle.net_sim.proofs.table.table_of.Given as goal

abbrev pub invariant-loop-m : goal.invariant-loop-m
invariant-loop-m l = IsTable l.instances l.nets l.m l.table.entries
