use Rattle.std.proofs.Common.{◌≡◌, List, ℕ, drop}
use Rattle.vec_clock.specs.trace_model.Packet.{widths_under}
use Rattle.trace_code.specs.Reading.{with_front}
use Rattle.trace_code.specs.PacketReading.{numbers_at}
use Rattle.trace_code.proofs.PacketLoop.{widths_from}
use Rattle.trace_code.proofs.skipping.skip_contents.Given as goal

abbrev pub invariant-loop-c : goal.invariant-loop-c
invariant-loop-c l = (front : List ℕ) × (with_front front (numbers_at (widths_from l.c l.starts (drop l.c l.channels)) l.rest)
    ≡ numbers_at (widths_under l.starts l.channels) l.bytes)
