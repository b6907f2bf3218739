use Rattle.std.proofs.Common.{◌≡◌, ℕ, take}
use Rattle.axi_burst.specs.Bursts.{count_with}
use Rattle.axi_burst.specs.Counted.{count_in}
use Rattle.axi_burst.proofs.counts.Counts.of.Given as goal

abbrev pub invariant-loop-x : goal.invariant-loop-x
invariant-loop-x l = (q : ℕ) → count_in l.counts.numbers.entries q ≡ count_with q (take l.x-index l.beats)
