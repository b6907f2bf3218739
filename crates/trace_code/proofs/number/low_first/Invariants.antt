use Rattle.std.proofs.Common.{◌≡◌, ◌<◌, ◌^◌, ◌-◌, drop, length}
use Rattle.trace_code.specs.PacketReading.{low_value}
use Rattle.trace_code.proofs.number.low_first.Given as goal

abbrev pub invariant-loop-i : goal.invariant-loop-i
invariant-loop-i l = record {
  value : l.value ≡ low_value (drop l.i l.bytes);
  small : l.value < 256 ^ (length l.bytes - l.i);
}
