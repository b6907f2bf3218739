use Rattle.std.proofs.Common.{◌≡◌, ◌<◌, ◌≤◌, ◌+◌, ◌*◌, List, ℕ, length, get_or, take, drop, ap, sym, subst, refl, ◌∙◌, arith}
use Rattle.std.proofs.lemmas.List.{get_or-replicate, length-replicate}
use Rattle.std.proofs.lemmas.Option.{slice_get_read}
use Rattle.std.specs.List.{flat_map, enumerate_from}
use Rattle.run_model.specs.trace_model.declared.packet.Packet.{Packet}
use Rattle.text_page.specs.Pad.{room}
use Rattle.report_text.specs.Trace.{packet_lines}
use Rattle.report_text.proofs.Clocks.{clock-first, clock-small, clock-on}
use Rattle.text_page.proofs.Items.{more_on}
use Rattle.report_text.proofs.Lines.{halves}
use Rattle.report_text.proofs.Packets.{packet-said}
use Rattle.report_text.proofs.trace_text.print_packets.Goals as goal

pub loop-number-init : goal.loop-number-init
loop-number-init g c = record {
  text = g.met.P.Page.still _;
  counts = c.requires.counts ∙ clock-first c.args.trace.now.packets (length c.args.trace.now.channels) _ (length-replicate _ 0)
      (λ k l. get_or-replicate _ k 0 0 l);
  room = c.requires.clock;
}

pub returns-then-is_lost : goal.returns-then-is_lost
returns-then-is_lost g c =
    let packets = c.args.trace.now.packets in
    let i = c.loop-number.number in
    let F : ℕ × Packet → List ℕ = packet_lines c.args.trace.now.channels packets in
    subst (λ (x : List ℕ). g.P.Page.went c.args.page.now c.loop-number.page x) (halves F packets i)
    (g.met.P.Page.onward _ _ _ _ _ c.loop-number.invariant.text
    (c.is_lost.ensures c.if-is_lost.true (flat_map F (enumerate_from (0 + length (take i packets)) (drop i packets)))))

pub count_packet-requires : goal.count_packet-requires
count_packet-requires g c = λ k l.
    let long : length c.as_slice-packet-items.result.now ≡ length c.args.trace.now.packets = ap length c.as_slice-packet-items.ensures in
    let small = clock-small c.args.trace.now.packets (length c.args.trace.now.channels) c.loop-number.number c.loop-number.completed
    (omega (arith, c.loop-number-test.true, long)) c.loop-number.invariant.counts k l in
    omega (arith, small, c.loop-number-test.true, c.as_slice-packet-items.type_inv.0)

pub loop-number-preserved : goal.loop-number-preserved
loop-number-preserved g c =
    let packets = c.args.trace.now.packets in
    let channels = c.args.trace.now.channels in
    let n = length channels in
    let p = c.loop-number.number in
    let F : ℕ × Packet → List ℕ = packet_lines channels packets in
    let long : length c.as_slice-packet-items.result.now ≡ length packets = ap length c.as_slice-packet-items.ensures in
    let within : p < length packets = omega (arith, c.loop-number-test.true, long) in
    let packet = c.packet-item.result in
    let is : packet ≡ get_or packets p packet = c.packet-item.is ∙ ap (λ (ps : List Packet). get_or ps p packet)
    c.as_slice-packet-items.ensures in
    let said = packet-said channels c.as_slice-channels.result.now packets p packet c.loop-number.completed _ c.as_slice.result.now
    c.as_slice-channels.ensures c.loop-number.invariant.counts c.put_clock.ensures.text c.as_slice.ensures in
    let step = subst (λ (x : List ℕ). g.P.Page.went c.loop-number.page c.print_packet.new.page x) said c.print_packet.ensures in
    record {
      text = subst (λ (x : List ℕ). g.P.Page.went c.args.page.now c.print_packet.new.page x) (more_on F packets p packet within is)
          (g.met.P.Page.onward _ _ _ _ _ c.loop-number.invariant.text step);
      counts = clock-on packets n p packet c.loop-number.completed c.count_packet.new.completed
          (slice_get_read packets (length packets) p packet refl within is)
          c.loop-number.invariant.counts c.count_packet.auto.completed c.count_packet.ensures;
      room = subst (λ (r : ℕ). 7 + 21 * n ≤ r) (sym c.put_clock.ensures.room) c.loop-number.invariant.room;
    }
