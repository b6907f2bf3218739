use Rattle.std.proofs.Common.{◌≡◌}
use Rattle.vlog_block.specs.Sources.{words_before}
use Rattle.vlog_block.proofs.source.words_before.Given as goal

abbrev pub invariant-loop-k : goal.invariant-loop-k
invariant-loop-k l = l.words ≡ words_before l.memories l.k
