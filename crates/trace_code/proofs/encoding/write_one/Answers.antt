use Rattle.std.proofs.Common.{◌++◌, length, drop, ap, ◌∙◌, arith}
use Rattle.trace_code.proofs.RowBytes.{contents-least, packet-written, reset-written}
use Rattle.trace_code.proofs.encoding.write_one.Goals as goal

pub returns-then-packet-clause-bytes : goal.returns-then-packet-clause-bytes
returns-then-packet-clause-bytes c = c.write_reset.ensures.bytes c.args.channels.now
    ∙ ap (λ bs. bs ++ drop c.write_reset.result c.args.buf.now) (reset-written c.args.channels.now c.args.packet.now c.if-packet.true)

pub returns-then-packet-clause-place : goal.returns-then-packet-clause-place
returns-then-packet-clause-place c = c.write_reset.ensures.len
    ∙ ap length (reset-written c.args.channels.now c.args.packet.now c.if-packet.true)

pub write_events-requires-clause-room : goal.write_events-requires-clause-room
write_events-requires-clause-room c = omega (
  arith,
  c.requires.room,
  contents-least c.args.packet.now.starts c.args.channels.now,
)

pub returns-clause-bytes : goal.returns-clause-bytes
returns-clause-bytes c =
    let bytes = rw c.as_slice-contents.ensures at c.write_events.ensures.bytes in
    bytes ∙ ap (λ bs. bs ++ drop c.write_events.result c.args.buf.now)
    (packet-written c.args.channels.now c.args.packet.now c.if-packet.false c.requires.packet.contents)

pub returns-clause-place : goal.returns-clause-place
returns-clause-place c =
    let place = rw c.as_slice-contents.ensures at c.write_events.ensures.place in
    place ∙ ap length (packet-written c.args.channels.now c.args.packet.now c.if-packet.false c.requires.packet.contents)
