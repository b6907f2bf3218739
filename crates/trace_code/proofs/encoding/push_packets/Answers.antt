use Rattle.std.proofs.Common.{subst, sym}
use Rattle.vec_clock.specs.trace_model.Packet.{IsPacket}
use Rattle.trace_code.proofs.RowBytes.{packet-pushed}
use Rattle.trace_code.proofs.encoding.push_packets.Goals as goal

pub write_one-len-requires-clause-packet : goal.write_one-len-requires-clause-packet
write_one-len-requires-clause-packet c = subst (IsPacket c.args.channels.now) (sym c.packet-item.is)
    (c.requires.packets c.loop-packet.packet-index c.packet-item.result c.loop-packet-test.true)

pub loop-packet-preserved : goal.loop-packet-preserved
loop-packet-preserved c =
    packet-pushed c.args.channels.now c.args.packets.now c.loop-packet.packet-index c.write_one-len.result c.packet-item.result
    c.args.out.now.items c.loop-packet.out.items c.extend_from_slice.new.self.items _ c.write_one-len.new.buf c.loop-packet-test.true
    c.packet-item.is c.write_one-len.ensures.bytes c.write_one-len.ensures.place c.loop-packet.invariant c.in_ok-extend_from_slice.ensures.items
