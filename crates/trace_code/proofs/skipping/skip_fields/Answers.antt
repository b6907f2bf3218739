use Rattle.std.proofs.Common.{[], refl}
use Rattle.trace_code.specs.PacketReading.{packet_at}
use Rattle.trace_code.proofs.skipping.skip_fields.Goals as goal

pub returns-then-reset : goal.returns-then-reset
unfolding packet_at
returns-then-reset c = ((c.in_ok-gap.gap, []), rw (← c.in_ok-reset.ensures, ← c.in_ok-gap.ensures, c.if-reset.true) refl)

pub returns : goal.returns
unfolding packet_at
returns c =
    let there = c.in_ok-starts.ensures in
    ((c.in_ok-gap.gap, there.0), rw (← c.in_ok-reset.ensures, ← c.in_ok-gap.ensures, c.if-reset.false) there.1)
