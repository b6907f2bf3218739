use Rattle.vlog_size.specs.Size.{NoBracket}
use Rattle.vlog_size.proofs.size.lone_word_facts.Goals as goal

pub returns : goal.returns
returns c = λ I n. c.word_facts.ensures I NoBracket c.args.width n (c.whole_word-whole.ensures c.args.line)
