use Rattle.axi_burst.specs.HeadTable.{AreBuilt}
use Rattle.axi_burst.proofs.heads.Heads.of.Given as goal

abbrev pub invariant-loop-j : goal.invariant-loop-j
invariant-loop-j l = AreBuilt l.asks l.j l.heads.heads.entries l.heads.next.items
