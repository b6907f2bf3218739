use Rattle.std.proofs.Common.{arith, refl}
use Rattle.chan_replayer.proofs.FedOffers.{made-more, room-here}
use Rattle.chan_replayer.proofs.offers.clear_contents.Goals as goal

pub clear_content-requires : goal.clear_content-requires
clear_content-requires c =
    let r = room-here c.args.channels.now c.args.contents.now c.loop-c.c c.loop-c.at c.index-channels-c.result c.requires c.loop-c-test.true
    c.index-channels-c.is c.loop-c.invariant.place in
    let n = c.len-ports.ensures in
    let long = c.loop-c.auto.contents in
    omega (arith, r, n, long)

pub overflow_add-at : goal.overflow_add-at
overflow_add-at c =
    let r = room-here c.args.channels.now c.args.contents.now c.loop-c.c c.loop-c.at c.index-channels-c.result c.requires c.loop-c-test.true
    c.index-channels-c.is c.loop-c.invariant.place in
    let n = c.len-ports.ensures in
    let long = c.loop-c.auto.contents in
    omega (arith, r, n, long)

pub loop-c-preserved : goal.loop-c-preserved
loop-c-preserved c =
    made-more c.args.channels.now c.args.valids c.args.contents.now c.loop-c.contents c.clear_content.new.contents c.loop-c.c c.loop-c.at _
    c.len-ports.result c.index-channels-c.result c.names.result c.requires c.loop-c-test.true c.index-channels-c.is c.names.ensures
    c.len-ports.ensures c.loop-c.invariant c.clear_content.ensures refl
