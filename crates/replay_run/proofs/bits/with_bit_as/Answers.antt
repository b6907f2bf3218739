use Rattle.std.proofs.Common.{sym, ◌∙◌}
use Rattle.run_stage.proofs.chan_replayer_lemmas.Masks.{bit-cut, bit-cut_other, bit-put, bit-put_other}
use Rattle.replay_run.proofs.bits.with_bit_as.Goals as goal

pub returns-then-up-clause-here : goal.returns-then-up-clause-here
returns-then-up-clause-here c = bit-put c.args.mask c.args.channel c.requires.few ∙ sym c.if-up.true

pub returns-then-up-clause-others : goal.returns-then-up-clause-others
returns-then-up-clause-others c = λ d ne. bit-put_other c.args.mask c.args.channel d c.requires.few ne

pub returns-else-up-clause-here : goal.returns-else-up-clause-here
returns-else-up-clause-here c = bit-cut c.args.mask c.args.channel c.requires.few ∙ sym c.if-up.false

pub returns-else-up-clause-others : goal.returns-else-up-clause-others
returns-else-up-clause-others c = λ d ne. bit-cut_other c.args.mask c.args.channel d c.ranges.mask.fits c.requires.few ne
