use Rattle.std.proofs.lemmas.Result.{err_from_is_err_and}
use Rattle.vec_clock.specs.trace_model.Packet.{widths_under}
use Rattle.trace_code.specs.PacketReading.{numbers_at}
use Rattle.trace_code.proofs.PacketLoop.{start_goes_on, start_ends, start_is_done}
use Rattle.trace_code.proofs.packets.read_contents.Goals as goal

pub returns-in_err-rest : goal.returns-in_err-rest
returns-in_err-rest c =
    let p = err_from_is_err_and c.from_residual-in_err-rest.result c.from_residual-in_err-rest.ensures.1 in
    rw (p.1, p.2) (start_ends c.in_err-rest.field-0.0 c.loop-c.numbers.items c.args.starts c.args.channels.now c.loop-c.c
    c.index-channels-c.result c.loop-c.rest.now (numbers_at (widths_under c.args.starts c.args.channels.now) c.args.bytes.now)
    c.loop-c-test.true c.index-channels-c.is (rw c.names-starting.ensures at c.in_err-rest.ensures) c.loop-c.invariant)

pub loop-c-preserved : goal.loop-c-preserved
loop-c-preserved c =
    start_goes_on c.loop-c.numbers.items c.args.starts c.args.channels.now c.loop-c.c c.index-channels-c.result c.loop-c.rest.now
    c.read_start.new.numbers.items c.in_ok-rest.rest.now (numbers_at (widths_under c.args.starts c.args.channels.now) c.args.bytes.now)
    c.loop-c-test.true c.index-channels-c.is (rw c.names-starting.ensures at c.in_ok-rest.ensures) c.loop-c.invariant

pub returns : goal.returns
returns c = rw c.from_vec.ensures (start_is_done c.loop-c.numbers.items c.args.starts c.args.channels.now c.loop-c.c c.loop-c.rest.now
    (numbers_at (widths_under c.args.starts c.args.channels.now) c.args.bytes.now) c.loop-c-test.false c.loop-c.invariant)
