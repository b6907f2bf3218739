use Rattle.std.proofs.Common.{length}
use Rattle.vlog_block.proofs.block.+matched.Given as goal

abbrev pub decreases-matched : goal.decreases-matched
decreases-matched l = length l.labels.now
