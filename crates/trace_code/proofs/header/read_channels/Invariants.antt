use Rattle.std.proofs.Common.{◌≡◌, ◌-◌}
use Rattle.trace_code.specs.Reading.{with_front, channels_at}
use Rattle.trace_code.proofs.header.read_channels.Given as goal

abbrev pub invariant-loop : goal.invariant-loop
invariant-loop l = with_front l.channels (channels_at (l.count - l.counter) l.rest) ≡ channels_at l.count l.bytes
