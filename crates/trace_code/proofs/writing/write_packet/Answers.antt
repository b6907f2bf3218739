use Rattle.std.proofs.Common.{◌++◌, length, drop, sym, ap, ◌∙◌, arith}
use Rattle.trace_code.proofs.RowBytes.{among-every, every-there, contents-least, row-packet, row-length}
use Rattle.trace_code.proofs.writing.write_packet.Goals as goal

pub write_events-requires-clause-some : goal.write_events-requires-clause-some
write_events-requires-clause-some c = among-every c.args.row.now.starts (length c.args.channels.now) (omega (arith, c.requires.table.few))
    c.requires.row.starts

pub write_events-requires-clause-one_each : goal.write_events-requires-clause-one_each
write_events-requires-clause-one_each c =
    rw (c.as_slice.ensures, c.as_slice-contents.ensures) (every-there c.args.channels.now c.args.row.now.contents
    (omega (arith, c.requires.table.few)) c.requires.row.contents)

pub write_events-requires-clause-room : goal.write_events-requires-clause-room
write_events-requires-clause-room c =
    rw c.as_slice.ensures (omega (arith, c.requires.room, contents-least c.args.row.now.starts c.args.channels.now))

pub returns-clause-bytes : goal.returns-clause-bytes
returns-clause-bytes c =
    let bytes = rw (c.as_slice.ensures, c.as_slice-contents.ensures) at c.write_events.ensures.bytes in
    bytes ∙ ap (λ bs. bs ++ drop c.write_events.result c.args.buf.now)
    (row-packet c.args.channels.now c.args.gap c.args.row.now (omega (arith, c.requires.table.few))
    (sym c.has_event.ensures ∙ c.if-not-has_event.false))

pub returns-clause-place : goal.returns-clause-place
returns-clause-place c =
    let place = rw (c.as_slice.ensures, c.as_slice-contents.ensures) at c.write_events.ensures.place in
    place ∙ ap length (row-packet c.args.channels.now c.args.gap c.args.row.now (omega (arith, c.requires.table.few))
    (sym c.has_event.ensures ∙ c.if-not-has_event.false))

pub returns-clause-len : goal.returns-clause-len
returns-clause-len c =
    let few = c.requires.table.few in
    let event = sym c.has_event.ensures ∙ c.if-not-has_event.false in
    let place = rw (c.as_slice.ensures, c.as_slice-contents.ensures) at c.write_events.ensures.place in
    place ∙ ap length (row-packet c.args.channels.now c.args.gap c.args.row.now (omega arith) event)
    ∙ row-length c.args.channels.now c.args.gap c.args.row.now (omega arith) c.requires.row.starts c.requires.row.contents event
