use Rattle.std.proofs.Common.{◌<◌, ◌^◌, subst, sym}
use Rattle.run_model.proofs.Contents.{mask-below, mask-more}
use Rattle.env_script.proofs.offers.readies.Goals as goal

pub with_bit-mask-requires-clause-below : goal.with_bit-mask-requires-clause-below
with_bit-mask-requires-clause-below g c = subst (λ m. m < 2 ^ c.loop-c.c) (sym c.loop-c.invariant) (mask-below _ c.loop-c.c)

pub loop-c-preserved : goal.loop-c-preserved
loop-c-preserved g c = mask-more (λ k. (g.E.Env.current c.args.env.now k).ready) c.loop-c.c c.ready-up.result c.loop-c.mask
    c.with_bit-mask.result c.ready-up.ensures c.with_bit-mask.ensures c.loop-c.invariant
