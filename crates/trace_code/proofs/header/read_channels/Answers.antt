use Rattle.std.proofs.lemmas.Result.{err_from_is_err_and}
use Rattle.trace_code.specs.Reading.{channels_at}
use Rattle.trace_code.proofs.Loop.{goes_on, ends, is_done}
use Rattle.trace_code.proofs.header.read_channels.Goals as goal

pub returns-in_err-channel : goal.returns-in_err-channel
returns-in_err-channel c =
    let p = err_from_is_err_and c.from_residual.result c.from_residual.ensures.1 in
    rw (p.1, p.2) (ends c.in_err-channel.field-0.0 c.loop.channels c.args.count c.loop.counter c.loop.rest.now
    (channels_at c.args.count c.args.bytes.now) c.loop-test.true c.in_err-channel.ensures c.loop.invariant)

pub loop-preserved : goal.loop-preserved
loop-preserved c =
    rw c.in_ok-push.ensures.ok (goes_on c.loop.channels c.args.count c.loop.counter c.loop.rest.now c.in_ok-channel.channel
    c.in_ok-channel.after.now (channels_at c.args.count c.args.bytes.now) c.loop-test.true c.in_ok-channel.ensures c.loop.invariant)

pub returns : goal.returns
returns c = is_done c.loop.channels c.args.count c.loop.counter c.loop.rest.now (channels_at c.args.count c.args.bytes.now)
    c.loop-test.false c.loop.invariant
