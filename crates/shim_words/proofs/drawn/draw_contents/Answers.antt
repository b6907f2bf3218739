use Rattle.std.proofs.Common.{◌<◌, length, arith}
use Rattle.shim_runs.proofs.trace_model_lemmas.ContentsLemmas.{fit-from_places}
use Rattle.shim_words.proofs.drawn.draw_contents.Goals as goal

pub returns : goal.returns
returns c =
    let long = c.loop-k.auto.contents in
    let ended = c.loop-k-test.false in
    let same = c.requires in
    fit-from_places c.args.widths.now c.loop-k.contents (omega (arith, long, same))
    (λ j (l : j < length c.args.widths.now). c.loop-k.invariant j (omega (arith, l, ended)))
