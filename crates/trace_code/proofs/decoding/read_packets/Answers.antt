use Rattle.std.proofs.Common.{◌++◌, All, List, ap, subst, sym}
use Rattle.std.specs.List.{flat_map}
use Rattle.std.proofs.lemmas.List.Elements.{All-nil, All-push}
use Rattle.vec_clock.specs.trace_model.declared.packet.Packet.{Packet}
use Rattle.vec_clock.specs.trace_model.Epoch.{since_reset}
use Rattle.vec_clock.specs.trace_model.Packet.{IsPacket}
use Rattle.vec_clock.specs.trace_model.Trace.{AlternateThroughout, InFlight}
use Rattle.vec_clock.proofs.trace_model_lemmas.EpochLemmas.{in_flight-none, throughout-nil}
use Rattle.trace_code.specs.Encoding.{packet_bytes}
use Rattle.trace_code.proofs.Spelled.{parts-push}
use Rattle.trace_code.proofs.decoding.read_packets.Goals as goal

pub loop-packets-init : goal.loop-packets-init
loop-packets-init c =
    let cs = c.args.channels.now in
    let none = c.new-packets.ensures in
    record {
      each = subst (All (IsPacket cs)) (sym none) (All-nil (IsPacket cs));
      alternate = subst AlternateThroughout (sym none) throughout-nil;
      flying = subst (λ (ps : List Packet). InFlight (since_reset ps) 0) (sym none) in_flight-none;
      parts = ap (λ (ps : List Packet). flat_map (packet_bytes cs) ps ++ c.args.bytes.now) (sym none);
    }

pub loop-packets-preserved : goal.loop-packets-preserved
loop-packets-preserved c =
    let inv = c.loop-packets.invariant in
    let packet = c.in-Some.packet in
    let push = c.in_ok-push.ensures.ok in
    let found = rw c.in-Some.is at c.in_ok-packet.ensures.found in
    let follows = rw c.in-Some.is at c.in_ok-packet.ensures.follows in
    let next = follows c.loop-packets.packets inv.alternate inv.flying in
    record {
      each = subst (All (IsPacket c.args.channels.now)) (sym push) (All-push (IsPacket c.args.channels.now) c.loop-packets.packets packet
          inv.each found.0);
      alternate = subst AlternateThroughout (sym push) next.0;
      flying = subst (λ (ps : List Packet). InFlight (since_reset ps) c.in-Some.after) (sym push) next.1;
      parts = parts-push (packet_bytes c.args.channels.now) c.loop-packets.packets c.push.new.self packet c.args.bytes.now c.loop-packets.rest.now
          c.in-Some.others.now inv.parts found.1 push;
    }

pub returns : goal.returns
returns c =
    let inv = c.loop-packets.invariant in
    let none = rw c.in_default.is at c.in_ok-packet.ensures.none in
    record {
      each = inv.each;
      alternate = inv.alternate;
      parts = inv.parts;
      last = λ p after lawful alternate. none c.loop-packets.packets p after inv.flying alternate lawful;
    }
