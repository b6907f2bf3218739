use Rattle.std.proofs.Common.{refl, ap, arith}
use Rattle.vec_clock.specs.trace_model.declared.packet.Packet.{Packet}
use Rattle.trace_code.specs.Skipping.{packet_with}
use Rattle.trace_code.proofs.PacketLaws.{packet_takes}
use Rattle.trace_code.proofs.Skips.{none-stands, none-other}
use Rattle.trace_code.proofs.skipping.skip_packet.Goals as goal

pub returns-clause-found : goal.returns-clause-found
returns-clause-found c =
    let there = c.in_ok-reset.ensures in
    let packet : Packet = packet_with there.0 c.in_ok-reset.reset c.in_ok-reset.starts c.in_ok-reset.ends in
    let found = packet_takes c.args.channels.now c.args.bytes.now (packet, c.in_ok-reset.rest.now)
    (λ i. omega (arith, c.type_inv.bytes i)) there.1 in
    record {
      packet = packet;
      lawful = found.0;
      parts = found.1;
      goes_on = λ ps. c.in_ok-after.ensures.some ps packet refl refl refl;
    }

pub returns-in_err-after-clause-none : goal.returns-in_err-after-clause-none
returns-in_err-after-clause-none c = rw c.from_residual-in_err-after.ensures λ ps p rest flying alternate lawful e.
    let there = c.in_ok-reset.ensures in
    let same = none-other c.args.channels.now c.args.bytes.now
    (packet_with there.0 c.in_ok-reset.reset c.in_ok-reset.starts c.in_ok-reset.ends) c.in_ok-reset.rest.now there.1 p rest lawful e in
    c.in_err-after.ensures.none ps p (ap (λ (x : Packet). x.reset) same) (ap (λ (x : Packet). x.starts) same)
    (ap (λ (x : Packet). x.ends) same) flying alternate

pub returns-in_err-reset-clause-none : goal.returns-in_err-reset-clause-none
returns-in_err-reset-clause-none c = rw c.from_residual.ensures λ ps p rest flying alternate lawful e.
    none-stands c.args.channels.now c.args.bytes.now c.in_err-reset.ensures p rest lawful e
