use Rattle.std.proofs.Common.{◌≡◌, ◌≤◌, ◌+◌, ◌++◌, drop}
use Rattle.vlog_hierarchy.specs.Plain.{plain_outlines, plain_nodes}
use Rattle.vlog_hierarchy.specs.Nodes.{firsts, net_total}
use Rattle.vlog_hierarchy.proofs.nodes.numbered.Given as goal
use Rattle.vlog_hierarchy.specs.declared.nodes.TheConstants.{MOST_NETS}

abbrev pub invariant-loop-node : goal.invariant-loop-node
invariant-loop-node l = record {
  firsts : l.numbering.firsts ++ firsts (plain_outlines l.outlines) l.numbering.nets (plain_nodes (drop l.node-index l.nodes))
      ≡ firsts (plain_outlines l.outlines) 0 (plain_nodes l.nodes);
  nets : l.numbering.nets + net_total (plain_outlines l.outlines) (plain_nodes (drop l.node-index l.nodes))
      ≡ net_total (plain_outlines l.outlines) (plain_nodes l.nodes);
  few : l.numbering.nets ≤ MOST_NETS;
}
