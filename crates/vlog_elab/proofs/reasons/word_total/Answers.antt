use Rattle.std.proofs.Common.{arith}
use Rattle.vlog_elab.specs.Plain.{plain_instances}
use Rattle.vlog_elab.specs.Reasons.{word_total}
use Rattle.vlog_elab.proofs.Firsts.{words_end}
use Rattle.vlog_elab.proofs.reasons.word_total.Goals as goal

pub returns : goal.returns
returns c = words_end c.args.list.now c.loop-instance.instance-index c.loop-instance.words (word_total (plain_instances c.args.list.now))
    (omega (arith, c.loop-instance-test.false)) c.loop-instance.invariant.small c.loop-instance.invariant.sum
