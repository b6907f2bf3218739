use Rattle.std.proofs.Common.{◌≡◌, List, ℕ, drop}
use Rattle.trace_code.specs.Reading.{with_front}
use Rattle.trace_code.specs.PacketReading.{numbers_at}
use Rattle.trace_code.proofs.skipping.skip_content.Given as goal

abbrev pub invariant-loop-width : goal.invariant-loop-width
invariant-loop-width l = (front : List ℕ)
    × (with_front front (numbers_at (drop l.width-index l.widths) l.rest) ≡ numbers_at l.widths l.bytes)
