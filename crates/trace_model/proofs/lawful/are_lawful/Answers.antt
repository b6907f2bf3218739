use Rattle.std.proofs.Common.{◌≡◌, ◌+◌, All, take, refl, subst, arith}
use Rattle.std.proofs.lemmas.List.{take_all}
use Rattle.trace_model.specs.Trace.{AlternateThroughout}
use Rattle.std.proofs.lemmas.List.Elements.{All-push}
use Rattle.trace_model.specs.Packet.{IsPacket}
use Rattle.trace_model.proofs.CountingLemmas.{take-more_read}
use Rattle.trace_model.proofs.EpochLemmas.{throughout-nil, throughout-take, in_flight-none}
use Rattle.trace_model.proofs.lawful.are_lawful.Goals as goal

pub returns-in_default : goal.returns-in_default
returns-in_default c =
    let ps = c.args.packets.now in
    let i = c.loop-p.p-index in
    let e = take-more_read ps i c.p-item.result (omega arith) c.p-item.is in (
      λ h. absurd (cc),
      λ w. absurd (c.in_default.ensures.none (take i ps) c.p-item.result refl refl refl c.loop-p.invariant.in_flight
          (rw e at (throughout-take (i + 1) ps w.1))),
    )

pub loop-p-preserved : goal.loop-p-preserved
loop-p-preserved c =
    let ps = c.args.packets.now in
    let i = c.loop-p.p-index in
    let e = take-more_read ps i c.p-item.result (omega arith) c.p-item.is in
    let on = c.in-Some.ensures.some (take i ps) c.p-item.result refl refl refl c.loop-p.invariant.alternate c.loop-p.invariant.in_flight in
    record {
      packets = rw e (All-push (IsPacket c.args.channels.now) (take i ps) c.p-item.result c.loop-p.invariant.packets
          (c.is_packet.ensures.0 c.if-not-is_packet.false));
      alternate = rw e (on.0);
      in_flight = rw e (on.1);
    }

pub loop-p-init : goal.loop-p-init
loop-p-init c = record { packets = λ k d below. absurd (omega arith); alternate = throughout-nil; in_flight = in_flight-none }

pub returns : goal.returns
returns c =
    let ps = c.args.packets.now in
    let all : take c.loop-p.p-index ps ≡ ps = take_all c.loop-p.p-index ps c.loop-p-test.false in (
      λ h. (
        subst (All (IsPacket c.args.channels.now)) all c.loop-p.invariant.packets,
        subst AlternateThroughout all c.loop-p.invariant.alternate,
      ),
      λ w. refl,
    )
