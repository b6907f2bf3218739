use Rattle.std.proofs.Common.{◌++◌, ap}
use Rattle.vec_clock.specs.trace_model.Packet.{widths_under}
use Rattle.trace_code.specs.Reading.{with_front}
use Rattle.trace_code.specs.PacketReading.{numbers_at}
use Rattle.trace_code.proofs.PacketLoop.{start_goes_on, start_lacks, start_is_done}
use Rattle.trace_code.proofs.skipping.skip_contents.Goals as goal

pub returns-in_err-rest : goal.returns-in_err-rest
returns-in_err-rest c =
    let inv = c.loop-c.invariant in
    let lacks = rw c.names-starting.ensures at c.in_err-rest.ensures in
    rw c.from_residual.ensures (start_lacks inv.0 c.args.starts c.args.channels.now c.loop-c.c c.index-channels-c.result c.loop-c.rest.now
    (numbers_at (widths_under c.args.starts c.args.channels.now) c.args.bytes.now) c.loop-c-test.true c.index-channels-c.is
    (ap (with_front inv.0) lacks) inv.1)

pub loop-c-preserved : goal.loop-c-preserved
loop-c-preserved c =
    let inv = c.loop-c.invariant in
    let there = rw c.names-starting.ensures at c.in_ok-rest.ensures in (
      inv.0 ++ there.0,
      start_goes_on inv.0 c.args.starts c.args.channels.now c.loop-c.c c.index-channels-c.result c.loop-c.rest.now (inv.0 ++ there.0)
          c.in_ok-rest.rest.now (numbers_at (widths_under c.args.starts c.args.channels.now) c.args.bytes.now) c.loop-c-test.true
          c.index-channels-c.is (ap (with_front inv.0) there.1) inv.1,
    )

pub returns : goal.returns
returns c =
    let inv = c.loop-c.invariant in (
      inv.0,
      start_is_done inv.0 c.args.starts c.args.channels.now c.loop-c.c c.loop-c.rest.now
          (numbers_at (widths_under c.args.starts c.args.channels.now) c.args.bytes.now) c.loop-c-test.false inv.1,
    )
