use Rattle.std.proofs.Common.{◌+◌, ◌∙◌, ap, arith, drop, length, take}
use Rattle.replay_run.specs.trace_model.Row.{all_widths}
use Rattle.replay_run.proofs.trace_model_lemmas.ContentsLemmas.{fit-length}
use Rattle.shim_cosim.specs.Rewrapped.{filled}
use Rattle.shim_cosim.proofs.ShownRow.{filled_more, room}
use Rattle.shim_cosim.proofs.shown_row.fill_contents.Goals as goal

pub fill_content-requires-clause-room : goal.fill_content-requires-clause-room
fill_content-requires-clause-room c =
    let r = room c.args.channels.now c.args.valids c.args.fed.now c.args.outputs.now c.requires.fed c.requires.long c.loop-c.c c.loop-c.at
    c.loop-c.contents c.loop-c.rest.now c.loop-c.invariant c.index-channels-c.result c.loop-c-test.true c.index-channels-c.is in
    let long = c.loop-c.auto.contents in
    let was = c.requires.places in
    let fit = fit-length (all_widths c.args.channels.now) c.args.fed.now c.requires.fed in
    omega (arith, r, long, was, fit)

pub overflow_add-at : goal.overflow_add-at
overflow_add-at c =
    let r = room c.args.channels.now c.args.valids c.args.fed.now c.args.outputs.now c.requires.fed c.requires.long c.loop-c.c c.loop-c.at
    c.loop-c.contents c.loop-c.rest.now c.loop-c.invariant c.index-channels-c.result c.loop-c-test.true c.index-channels-c.is in
    let n = c.len-at.ensures in
    let long = c.loop-c.auto.contents in
    let was = c.requires.places in
    let fit = fit-length (all_widths c.args.channels.now) c.args.fed.now c.requires.fed in
    omega (arith, r, n, long, was, fit)

pub loop-c-preserved : goal.loop-c-preserved
loop-c-preserved c =
    filled_more c.args.channels.now c.args.valids c.args.fed.now c.args.outputs.now c.requires.fed c.requires.long c.loop-c.c c.loop-c.at
    c.loop-c.contents c.loop-c.rest.now c.loop-c.invariant c.index-channels-c.result c.loop-c-test.true c.index-channels-c.is
    c.split_at.result.0.now c.fill_content.new.contents c.split_at.result.1.now _
    (c.split_at.ensures.front ∙ ap (λ k. take k c.loop-c.rest.now) c.output_count.ensures)
    (c.fill_content.ensures
    ∙ ap (λ b. filled c.index-channels-c.result.dir b c.split_at.result.0.now c.loop-c.at (length c.index-channels-c.result.widths)
    c.loop-c.contents) c.names.ensures)
    (ap (λ k. c.loop-c.at + k) c.len-at.ensures)
    (c.split_at.ensures.back ∙ ap (λ k. drop k c.loop-c.rest.now) c.output_count.ensures)
