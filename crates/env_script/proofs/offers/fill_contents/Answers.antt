use Rattle.std.proofs.Common.{arith, refl}
use Rattle.env_script.proofs.Filling.{fill-more, room-here}
use Rattle.env_script.proofs.offers.fill_contents.Goals as goal

pub loop-c-preserved : goal.loop-c-preserved
loop-c-preserved g c =
    fill-more c.args.channels.now (g.E.Env.current c.args.env.now) c.args.contents.now c.loop-c.contents c.fill_content.new.contents
    c.loop-c.c c.loop-c.at _ c.len-ports.result c.index-channels-c.result c.requires.fits c.loop-c-test.true c.index-channels-c.is
    c.len-ports.ensures
    c.loop-c.invariant c.fill_content.ensures refl

pub fill_content-requires-clause-room : goal.fill_content-requires-clause-room
fill_content-requires-clause-room g c =
    let r = room-here c.args.channels.now c.args.contents.now c.loop-c.c c.loop-c.at c.index-channels-c.result c.requires.places
    c.loop-c-test.true c.index-channels-c.is c.loop-c.invariant.place in
    let n = c.len-ports.ensures in
    let long = c.loop-c.auto.contents in
    omega (arith, r, n, long)

pub overflow_add-at : goal.overflow_add-at
overflow_add-at g c =
    let r = room-here c.args.channels.now c.args.contents.now c.loop-c.c c.loop-c.at c.index-channels-c.result c.requires.places
    c.loop-c-test.true c.index-channels-c.is c.loop-c.invariant.place in
    let n = c.len-ports.ensures in
    omega (arith, r, n)
