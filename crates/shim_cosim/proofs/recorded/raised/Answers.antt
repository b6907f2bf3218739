use Rattle.std.proofs.Common.{◌+◌, ◌<◌, ◌^◌, ◌==◌, ap, subst, sym, ◌∙◌, arith}
use Rattle.net_design.specs.Pins.{outputs}
use Rattle.replay_run.proofs.run_model_lemmas.Contents.{mask-below, mask-more}
use Rattle.shim_cosim.specs.Recorded.{output_count, is_raised}
use Rattle.shim_cosim.proofs.Entering.{counted-within, counted-more, raised-is}
use Rattle.shim_cosim.proofs.recorded.raised.Goals as goal

pub spot_place-requires : goal.spot_place-requires
spot_place-requires g c =
    let w = counted-within output_count c.args.channels.now c.loop-c.c c.index-channels-c.result c.loop-c-test.true c.index-channels-c.is in
    let s = c.requires.small in
    omega (arith, w, s)

pub with_bit-mask-requires-clause-below : goal.with_bit-mask-requires-clause-below
with_bit-mask-requires-clause-below g c =
    subst (λ m. m < 2 ^ c.loop-c.c) (sym c.loop-c.invariant.mask_is) (mask-below _ c.loop-c.c)

pub loop-c-preserved : goal.loop-c-preserved
loop-c-preserved g c =
    let out = outputs (g.B.Block.design c.args.block.now) (g.B.Block.shown c.args.block.now) in
    record {
      place =
          (let m = counted-more output_count c.args.channels.now c.loop-c.c c.index-channels-c.result c.loop-c-test.true c.index-channels-c.is in
          let p = c.loop-c.invariant.place in
          let k = c.content_count.ensures in
          omega (arith, m, p, k));
      mask_is =
          mask-more (is_raised c.args.channels.now out c.args.spot) c.loop-c.c (c.pin-up.result == 1) c.loop-c.mask c.with_bit-mask.result
          (ap (λ k. k == 1) c.pin-up.ensures
          ∙ raised-is c.args.channels.now out c.args.spot c.loop-c.c c.loop-c.seat _ c.index-channels-c.result c.loop-c-test.true
          c.index-channels-c.is c.loop-c.invariant.place (ap (λ k. c.loop-c.seat + k) c.spot_place.ensures))
          c.with_bit-mask.ensures c.loop-c.invariant.mask_is;
    }
