use Rattle.std.proofs.Common.{◌≡◌, ℕ, length, take}
use Rattle.std.specs.Prelude.{slice_get}
use Rattle.trace_code.specs.trace_model.declared.event.Kind.TheVariants.{Start}
use Rattle.trace_code.specs.trace_model.declared.packet.Packet.{Packet}
use Rattle.trace_code.specs.trace_model.declared.trace.Trace.{Trace}
use Rattle.trace_code.specs.trace_model.Counting.{IsNth}
use Rattle.trace_code.specs.trace_model.Packet.{content_of, does, widths_of}
use Rattle.trace_code.specs.trace_model.Row.{replaced}
use Rattle.trace_code.specs.Stands.{Stands}
use Rattle.replay_run.proofs.feeding.copy_content.Given as goal

abbrev pub invariant-loop-port : goal.invariant-loop-port
invariant-loop-port l = (t : Trace) (j p : ℕ) (packet : Packet) → Stands l.cursor t j
    → l.ports ≡ length (widths_of (slice_get t.channels l.cursor.channel)) → IsNth (does Start l.cursor.channel) t.packets j p packet
    → l.contents ≡ replaced l.fn.contents l.at (take l.port (content_of t.channels packet l.cursor.channel))
