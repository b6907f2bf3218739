-- What a memory sink shows: the bytes written and the room for more, the pushes that are listed to fail, how many were made and how many
-- failed.
use Rattle.std.specs.Prelude.{ℕ, List, vec_capacity}
use Rattle.vidi_io.specs.declared.mem_sink.MemSink.{MemSink}

abbrev pub written : MemSink → List ℕ
written sink = sink.bytes.items

abbrev pub capacity : MemSink → ℕ
capacity sink = vec_capacity sink.bytes

abbrev pub listed : MemSink → List ℕ
listed sink = sink.fails

abbrev pub pushes_made : MemSink → ℕ
pushes_made sink = sink.pushes

abbrev pub failed_pushes : MemSink → ℕ
failed_pushes sink = sink.faults
