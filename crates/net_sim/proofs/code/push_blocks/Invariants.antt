use Rattle.std.proofs.Common.{◌≡◌, ◌++◌, ◌≤◌, drop, length}
use Rattle.net_sim.specs.Slots.{blocks_code}
use Rattle.net_sim.proofs.code.push_blocks.Given as goal

abbrev pub invariant-clocked : goal.invariant-clocked
invariant-clocked l = record {
  same : l.code ≡ l.initial.code ++ blocks_code l.widths l.words (drop l.i l.blocks);
  inside : l.i ≤ length l.blocks;
}

abbrev pub decreases-clocked : goal.decreases-clocked
decreases-clocked l = l.i
