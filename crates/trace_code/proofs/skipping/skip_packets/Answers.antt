use Rattle.std.proofs.Common.{arith}
use Rattle.trace_code.proofs.Skips.{skipped-all, skipped-few, skipped-none, skipped-on}
use Rattle.trace_code.proofs.skipping.skip_packets.Goals as goal

pub overflow_add-packets : goal.overflow_add-packets
overflow_add-packets c = omega (
  arith,
  skipped-few c.args.channels.now c.args.bytes.now c.loop-after.packets c.loop-after.flying c.loop-after.rest.now c.loop-after.invariant,
)

pub loop-after-preserved : goal.loop-after-preserved
loop-after-preserved c =
    let follows = rw c.in-Some.is at c.skip_packet.ensures.found in
    skipped-on c.args.channels.now c.args.bytes.now c.loop-after.packets c.loop-after.flying c.in-Some.after c.loop-after.rest.now
    c.in-Some.others.now c.loop-after.invariant follows

pub loop-after-init : goal.loop-after-init
loop-after-init c = skipped-none c.args.channels.now c.args.bytes.now

pub returns : goal.returns
returns c =
    skipped-all c.args.channels.now c.args.bytes.now c.loop-after.packets c.loop-after.flying c.loop-after.rest.now c.loop-after.invariant
    c.in_default.ensures.none
