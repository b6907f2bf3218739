use Rattle.std.proofs.Common.{refl, arith}
use Rattle.trace_code.specs.trace_model.Epoch.{epoch}
use Rattle.replay_run.proofs.Fills.{fed-all, fed-more, none-left, place-more, ports-few}
use Rattle.replay_run.proofs.feeding.fill.Goals as goal

pub loop-c-init : goal.loop-c-init
loop-c-init c = record {
  place = refl;
  small = omega arith;
  over = c.requires.over;
  below = λ d l. absurd (omega (arith, l));
  fed = λ t have are same but. but;
}

pub overflow_add-at : goal.overflow_add-at
overflow_add-at c =
    let few = c.requires.table.few in
    let small = c.loop-c.invariant.small in
    let l = c.loop-c-test.true in
    let p = ports-few c.args.channels.now c.loop-c.c c.len-ports.result c.index-channels-c.result c.requires.table l c.index-channels-c.is
    c.len-ports.ensures in
    omega (arith, few, small, l, p)

pub loop-c-preserved : goal.loop-c-preserved
loop-c-preserved c =
    let l = c.loop-c-test.true in
    let x = c.index-channels-c.result in
    let left = c.loop-c.left in
    let rest = c.with_bit_as-left.result in
    record {
      place = place-more c.args.channels.now c.loop-c.c c.loop-c.at c.len-ports.result x l c.index-channels-c.is c.len-ports.ensures
          c.loop-c.invariant.place;
      small = (let p = ports-few c.args.channels.now c.loop-c.c c.len-ports.result x c.requires.table l c.index-channels-c.is c.len-ports.ensures in
          let small = c.loop-c.invariant.small in omega (arith, p, small));
      over = c.feed_named.ensures.over;
      below = none-left left rest c.loop-c.c c.with_bit_as-left.ensures.here c.with_bit_as-left.ensures.others c.loop-c.invariant.below;
      fed = λ t have are same but.
          (let so_far = c.loop-c.invariant.fed t have are same but in
          fed-more c.args.channels.now (epoch c.args.cursors.now.epoch t.packets) have left rest c.loop-c.c c.loop-c.feed c.feed_named.new.feed c.feed_named.ensures.others
          (c.feed_named.ensures.here t have are same so_far) c.with_bit_as-left.ensures.others so_far);
    }

pub returns-clause-feed : goal.returns-clause-feed
returns-clause-feed c t have are same but =
    fed-all c.args.channels.now (epoch c.args.cursors.now.epoch t.packets) have c.loop-c.left c.loop-c.c c.loop-c.feed (let l = c.loop-c-test.false in omega (arith, l))
    c.loop-c.invariant.below (c.loop-c.invariant.fed t have are same but)
