use Rattle.std.proofs.Common.{ℕ, ◌+◌, cond, ap, sym, length, arith}
use Rattle.std.proofs.lemmas.List.{length-take}
use Rattle.vidi_recorder.proofs.Lengths.{none-by_len, packet_room, some-by_len}
use Rattle.vidi_recorder.proofs.steps.keep.Goals as goal

pub put-requires : goal.put-requires
put-requires c =
    let cells = c.args.cells.now in
    let r = packet_room c.args.channels.now cells.room c.emit-len.new.self c.args.row.now.starts c.args.row.now.ends
    (length cells.store.items) c.write_packet-len.result cells.store.capacity c.emit-len.ensures.next c.emit-len.ensures.room
    c.requires.sizes c.requires.waits c.requires.capacity c.write_packet-len.ensures.len in
    omega (arith, r, length-take {A = ℕ})

pub returns-then-len-gt0-clause-count : goal.returns-then-len-gt0-clause-count
returns-then-len-gt0-clause-count c =
    let some = some-by_len c.args.channels.now c.args.row.now c.write_packet-len.result c.write_packet-len.ensures.len c.if-len-gt0.true in
    ap (λ b. c.args.cells.now.packets + cond b 1 0) (sym some)

pub returns-then-len-gt0-clause-end : goal.returns-then-len-gt0-clause-end
returns-then-len-gt0-clause-end c =
    let some = some-by_len c.args.channels.now c.args.row.now c.write_packet-len.result c.write_packet-len.ensures.len c.if-len-gt0.true in
    ap (λ b. cond b (c.args.cycle + 1) c.args.cells.now.end) (sym some)

pub returns-else-len-gt0-clause-count : goal.returns-else-len-gt0-clause-count
returns-else-len-gt0-clause-count c =
    let none = none-by_len c.args.channels.now c.args.row.now c.write_packet-len.result c.write_packet-len.ensures.len c.if-len-gt0.false in
    let same = ap {B = ℕ} (λ b. cond b 1 0) none in
    omega (arith, same)

pub returns-else-len-gt0-clause-end : goal.returns-else-len-gt0-clause-end
returns-else-len-gt0-clause-end c =
    let none = none-by_len c.args.channels.now c.args.row.now c.write_packet-len.result c.write_packet-len.ensures.len c.if-len-gt0.false in
    ap (λ b. cond b (c.args.cycle + 1) c.args.cells.now.end) (sym none)
