use Rattle.std.proofs.Common.{All, List, subst, sym}
use Rattle.std.proofs.lemmas.List.Elements.{All-push}
use Rattle.trace_code.specs.trace_model.declared.packet.Packet.{Packet}
use Rattle.trace_v2.specs.Old.{IsOldPacket, old_packet_bytes}
use Rattle.trace_code.specs.trace_model.Trace.{Alternates, InFlight}
use Rattle.trace_code.proofs.Spelled.{parts-push}
use Rattle.trace_v2.proofs.decoding.read_old_packets.Goals as goal

pub loop-packets-preserved : goal.loop-packets-preserved
loop-packets-preserved c =
    let inv = c.loop-packets.invariant in
    let packet = c.in-Some.packet in
    let push = c.in_ok-push.ensures.ok in
    let found = rw c.in-Some.is at c.in_ok-packet.ensures.found in
    let follows = rw c.in-Some.is at c.in_ok-packet.ensures.follows in
    let next = follows c.loop-packets.packets inv.alternate inv.flying in
    record {
      each = subst (All (IsOldPacket c.args.channels.now)) (sym push) (All-push (IsOldPacket c.args.channels.now) c.loop-packets.packets packet
          inv.each found.0);
      alternate = subst Alternates (sym push) next.0;
      flying = subst (λ (ps : List Packet). InFlight ps c.in-Some.after) (sym push) next.1;
      parts = parts-push (old_packet_bytes c.args.channels.now) c.loop-packets.packets c.push.new.self packet c.args.bytes.now c.loop-packets.rest.now
          c.in-Some.others.now inv.parts found.1 push;
    }
