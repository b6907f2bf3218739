use Rattle.std.proofs.Common.{◌<◌, length, sym, ap, arith}
use Rattle.std.proofs.lemmas.Option.{slice_get_read, slice_get_within}
use Rattle.replay_run.proofs.Forward.{named-below}
use Rattle.replay_run.proofs.Playing.{inward-more}
use Rattle.replay_run.proofs.feeder.inward_of.Goals as goal

pub loop-c-preserved : goal.loop-c-preserved
loop-c-preserved c =
    let channels = c.args.channels.now in
    let small = c.loop-c.invariant.below in
    record {
      below = named-below c.loop-c.c c.loop-c.inward c.with_bit-inward.result c.is_inward.result small c.with_bit-inward.ensures;
      named = inward-more channels c.loop-c.c c.loop-c.inward c.with_bit-inward.result c.index-channels-c.result c.is_inward.result
          small c.loop-c-test.true c.index-channels-c.is c.with_bit-inward.ensures c.is_inward.ensures c.loop-c.invariant.named;
    }

pub returns : goal.returns
returns c d x at =
    let w = slice_get_within c.args.channels.now d x at in
    let far = c.loop-c-test.false in
    c.loop-c.invariant.named d x (omega (arith, w, far)) at
