use Rattle.std.proofs.Common.{◌≡◌, ◌++◌, ◌-◌, ℕ, drop, take}
use Rattle.axi_burst.specs.Bursts.{bursts_from, bursts_of, count_with, needed_with}
use Rattle.axi_burst.specs.Counted.{count_in}
use Rattle.axi_burst.proofs.grouping.push_bursts.Given as goal

abbrev pub invariant-loop-a : goal.invariant-loop-a
invariant-loop-a l = record {
  left : (q : ℕ) → count_in l.left.numbers.entries q ≡ count_with q l.answers - needed_with l.write q (take l.a-index l.asks);
  bursts : l.bursts ++ bursts_from l.write l.asks l.answers l.a-index (drop l.a-index l.asks)
      ≡ l.initial.bursts ++ bursts_of l.write l.asks l.answers;
}
