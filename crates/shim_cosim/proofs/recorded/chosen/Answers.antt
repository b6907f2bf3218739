use Rattle.std.proofs.Common.{◌<◌, ◌^◌, subst, sym, ◌∙◌}
use Rattle.replay_run.proofs.run_model_lemmas.Contents.{mask-below, mask-more}
use Rattle.shim_cosim.specs.Recorded.{is_chosen}
use Rattle.shim_cosim.proofs.Entering.{chosen-is}
use Rattle.shim_cosim.proofs.recorded.chosen.Goals as goal

pub with_bit-mask-requires-clause-below : goal.with_bit-mask-requires-clause-below
with_bit-mask-requires-clause-below c = subst (λ m. m < 2 ^ c.loop-c.c) (sym c.loop-c.invariant) (mask-below _ c.loop-c.c)

pub loop-c-preserved : goal.loop-c-preserved
loop-c-preserved c =
    mask-more (is_chosen c.args.channels.now c.args.inward c.args.outward) c.loop-c.c c.chosen_on-up.result c.loop-c.mask c.with_bit-mask.result
    (c.chosen_on-up.ensures
    ∙ chosen-is c.args.channels.now c.args.inward c.args.outward c.loop-c.c c.index-channels-c.result c.loop-c-test.true c.index-channels-c.is)
    c.with_bit-mask.ensures c.loop-c.invariant
