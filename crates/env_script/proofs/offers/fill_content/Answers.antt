use Rattle.std.proofs.Common.{refl}
use Rattle.run_model.proofs.trace_model_lemmas.RowLemmas.{replaced-none}
use Rattle.env_script.proofs.Filling.{port-written}
use Rattle.env_script.proofs.offers.fill_content.Goals as goal

pub loop-port-init : goal.loop-port-init
loop-port-init g c = replaced-none c.args.contents.now c.args.at

pub loop-port-preserved : goal.loop-port-preserved
loop-port-preserved g c =
    port-written c.args.contents.now c.loop-port.contents _ (g.E.Env.current c.args.env.now c.args.channel).content c.args.at c.args.ports
    c.loop-port.port c.content.result c.loop-port-test.true c.requires.room c.content.ensures c.loop-port.invariant refl
