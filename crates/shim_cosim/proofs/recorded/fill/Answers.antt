use Rattle.std.proofs.Common.{arith, refl}
use Rattle.net_design.specs.Pins.{outputs}
use Rattle.replay_run.specs.trace_model.Row.{all_widths}
use Rattle.replay_run.proofs.trace_model_lemmas.ContentsLemmas.{fit-length}
use Rattle.replay_run.proofs.trace_model_lemmas.RowLemmas.{first-within}
use Rattle.shim_cosim.proofs.Entering.{count-most, fill-more}
use Rattle.shim_cosim.proofs.recorded.fill.Goals as goal

pub read_content-requires-clause-room : goal.read_content-requires-clause-room
read_content-requires-clause-room g c =
    let x = c.channel-item.result in
    let w = first-within c.args.channels.now c.args.offers.now.contents c.loop-channel.channel-index x c.requires.offers
    c.loop-channel-test.true c.channel-item.is in
    let p = c.loop-channel.invariant.first in
    let k = c.content_count-count.ensures in
    let m = count-most x x.dir in
    let long = c.loop-channel.auto.contents in
    let was = c.requires.contents in
    let fit = fit-length (all_widths c.args.channels.now) c.args.offers.now.contents c.requires.offers in
    omega (arith, w, p, k, m, long, was, fit)

pub overflow_add-at : goal.overflow_add-at
overflow_add-at g c =
    let w = first-within c.args.channels.now c.args.offers.now.contents c.loop-channel.channel-index c.channel-item.result c.requires.offers
    c.loop-channel-test.true c.channel-item.is in
    let p = c.loop-channel.invariant.first in
    let n = c.len-at.ensures in
    let long = c.loop-channel.auto.contents in
    let was = c.requires.contents in
    let fit = fit-length (all_widths c.args.channels.now) c.args.offers.now.contents c.requires.offers in
    omega (arith, w, p, n, long, was, fit)

pub loop-channel-preserved : goal.loop-channel-preserved
loop-channel-preserved g c =
    fill-more c.args.channels.now c.args.offers.now (outputs (g.B.Block.design c.args.block.now) (g.B.Block.shown c.args.block.now))
    c.loop-channel.contents c.read_content.new.contents c.loop-channel.channel-index c.loop-channel.at _ c.loop-channel.seat _
    c.content_count-count.result c.channel-item.result c.requires.offers c.loop-channel-test.true c.channel-item.is
    c.content_count-count.ensures c.loop-channel.invariant c.read_content.ensures (let n = c.len-at.ensures in omega (arith, n)) refl
