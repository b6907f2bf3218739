use Rattle.std.proofs.Common.{◌≡◌, drop}
use Rattle.trace_code.specs.Reading.{with_front}
use Rattle.trace_code.specs.PacketReading.{numbers_at}
use Rattle.trace_code.proofs.packets.read_content.Given as goal

abbrev pub invariant-loop-width : goal.invariant-loop-width
invariant-loop-width l = with_front l.numbers.items (numbers_at (drop l.width-index l.widths) l.rest)
    ≡ with_front l.fn.numbers.items (numbers_at l.widths l.bytes)
