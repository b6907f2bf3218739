use Rattle.std.proofs.Common.{arith}
use Rattle.net_design.specs.Pins.{outputs}
use Rattle.run_model.proofs.trace_model_lemmas.ContentsLemmas.{fit-length}
use Rattle.run_model.specs.trace_model.Row.{all_widths}
use Rattle.run_model.proofs.trace_model_lemmas.RowLemmas.{first-within}
use Rattle.chan_monitor.proofs.Filling.{fill-more, plug-shown}
use Rattle.chan_monitor.proofs.rows.fill.Goals as goal

pub fill_content-requires-clause-room : goal.fill_content-requires-clause-room
fill_content-requires-clause-room g c =
    let w = first-within c.args.channels.now c.args.offers.now.contents c.loop-c.c c.index-channels-c.result c.requires.offers.contents
    c.loop-c-test.true c.index-channels-c.is in
    let p = c.loop-c.invariant.place in
    let many = (plug-shown _ c.args.channels.now c.args.plugs.now c.requires.plugs c.loop-c.c c.index-channels-c.result
    c.index-plugs-c.result c.loop-c-test.true c.index-channels-c.is c.index-plugs-c.is).1 in
    let long = c.loop-c.auto.contents in
    let was = c.requires.places in
    let fit = fit-length (all_widths c.args.channels.now) c.args.offers.now.contents c.requires.offers.contents in
    omega (arith, w, p, many, long, was, fit)

pub overflow_add-at : goal.overflow_add-at
overflow_add-at g c =
    let w = first-within c.args.channels.now c.args.offers.now.contents c.loop-c.c c.index-channels-c.result c.requires.offers.contents
    c.loop-c-test.true c.index-channels-c.is in
    let p = c.loop-c.invariant.place in
    let n = c.len-at.ensures in
    let long = c.loop-c.auto.contents in
    let was = c.requires.places in
    let fit = fit-length (all_widths c.args.channels.now) c.args.offers.now.contents c.requires.offers.contents in
    omega (arith, w, p, n, long, was, fit)

pub loop-c-preserved : goal.loop-c-preserved
loop-c-preserved g c =
    fill-more c.args.channels.now c.args.plugs.now c.args.offers.now
    (outputs (g.B.Block.design c.args.block.now)
    (g.B.Block.shown c.args.block.now)) c.loop-c.contents c.fill_content.new.contents c.loop-c.c
    c.loop-c.at _ c.index-channels-c.result c.index-plugs-c.result c.requires.offers.contents c.requires.zeros c.loop-c-test.true
    c.requires.plugs.many c.index-channels-c.is c.index-plugs-c.is
    (plug-shown _ c.args.channels.now c.args.plugs.now c.requires.plugs c.loop-c.c c.index-channels-c.result
    c.index-plugs-c.result c.loop-c-test.true c.index-channels-c.is c.index-plugs-c.is).1
    c.loop-c.invariant c.fill_content.ensures (let n = c.len-at.ensures in omega (arith, n))
