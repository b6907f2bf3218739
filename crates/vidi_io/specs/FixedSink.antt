-- What a sink over a buffer shows: the bytes written, the room left, and how many pushes failed.
use Rattle.std.specs.Prelude.{ℕ, ◌-◌, List, length, take}
use Rattle.vidi_io.specs.declared.fixed_sink.FixedSink.{FixedSink}

abbrev pub filled : FixedSink → List ℕ
filled sink = take sink.len sink.buf.items

abbrev pub room_left : FixedSink → ℕ
room_left sink = length sink.buf.items - sink.len

abbrev pub missed_pushes : FixedSink → ℕ
missed_pushes sink = sink.faults
