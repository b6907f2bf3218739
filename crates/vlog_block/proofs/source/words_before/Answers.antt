use Rattle.std.proofs.Common.{sym}
use Rattle.vlog_block.proofs.Words.{none_before}
use Rattle.vlog_block.proofs.source.words_before.Goals as goal

pub loop-k-init : goal.loop-k-init
loop-k-init c = sym (none_before c.args.memories.now)
