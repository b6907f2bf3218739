use Rattle.std.proofs.Common.{refl, arith}
use Rattle.trace_code.proofs.trace_model_lemmas.RowLemmas.{replaced-none}
use Rattle.replay_run.proofs.Fills.{content-more, content-whole}
use Rattle.replay_run.proofs.feeding.copy_content.Goals as goal

pub loop-port-init : goal.loop-port-init
loop-port-init c t j p packet s many nth = replaced-none c.args.contents.now c.args.at

pub loop-port-preserved : goal.loop-port-preserved
loop-port-preserved c t j p packet s many nth =
    content-more t c.args.cursor.now j p packet c.args.contents.now c.loop-port.contents _ c.args.at c.args.ports c.loop-port.port
    c.content.result s many nth c.loop-port-test.true c.requires.room (c.content.ensures t j p packet s nth)
    (c.loop-port.invariant t j p packet s many nth) refl

pub returns : goal.returns
returns c t j p packet s many nth =
    content-whole t c.args.cursor.now j p packet c.args.contents.now c.loop-port.contents c.args.at c.args.ports c.loop-port.port s many nth
    (let l = c.loop-port-test.false in omega (arith, l)) (c.loop-port.invariant t j p packet s many nth)
