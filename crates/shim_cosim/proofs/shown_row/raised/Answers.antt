use Rattle.std.proofs.Common.{◌<◌, ◌^◌, arith, subst, sym}
use Rattle.replay_run.proofs.run_model_lemmas.Contents.{mask-below}
use Rattle.shim_cosim.proofs.ShownRow.{outputs_within}
use Rattle.shim_cosim.proofs.shown_row.raised.Goals as goal

pub output_count-requires : goal.output_count-requires
output_count-requires c =
    let w = outputs_within c.args.channels.now c.args.outputs.now c.requires.long c.loop-c.c c.index-channels-c.result c.loop-c-test.true
    c.index-channels-c.is in
    omega (arith, w)

pub with_bit-mask-requires-clause-below : goal.with_bit-mask-requires-clause-below
with_bit-mask-requires-clause-below c = subst (λ m. m < 2 ^ c.loop-c.c) (sym c.loop-c.invariant.mask) (mask-below _ c.loop-c.c)
