use Rattle.net_sim.specs.Table.{ArePaths}
use Rattle.net_sim.proofs.table.path_hashes.Given as goal

abbrev pub invariant-loop-i : goal.invariant-loop-i
invariant-loop-i l = ArePaths l.instances l.i l.hashes
