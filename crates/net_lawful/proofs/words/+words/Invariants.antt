use Rattle.std.proofs.Common.{◌≡◌, drop}
use Rattle.net_design.specs.Bits.{block_writes_words}
use Rattle.net_lawful.specs.Words.{guards_write}
use Rattle.net_lawful.proofs.words.+words.Given as goal

abbrev pub invariant-acts_write-loop-act : goal.invariant-acts_write-loop-act
invariant-acts_write-loop-act l = block_writes_words (drop l.act-index l.act-items) ≡ block_writes_words l.acts

abbrev pub invariant-guards_write-loop-guard : goal.invariant-guards_write-loop-guard
invariant-guards_write-loop-guard l = guards_write (drop l.guard-index l.guard-items) ≡ guards_write l.guards
