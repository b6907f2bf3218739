-- *migration*: what `replay` makes of a trace that `migrate` wrote.
use Rattle.std.specs.Prelude.{◌≡◌, ℕ, ◌≤◌, List, Some, length}
use Rattle.std.specs.FinMap.{get}
use Rattle.vidi_commands.specs.trace_model.declared.trace.Trace.{Trace}
use Rattle.vidi_commands.specs.trace_code.Encoding.{encode}
use Rattle.vidi_commands.specs.trace_v2.Old.{EncodesOld}
use Rattle.vidi_commands.specs.vidi_io.Shelf.{Files}
use Rattle.vidi_commands.specs.vidi_bench.declared.device.Device.{Device}
use Rattle.vidi_commands.specs.vidi_bench.Design.{text_limit}
use Rattle.vidi_commands.specs.vidi_bench.Devices.{IsDevice}
use Rattle.vidi_commands.specs.vidi_bench.Reading.{IsRead}
use Rattle.vidi_commands.specs.replay_command.Replays.{IsReplayable}
use Rattle.vidi_commands.specs.trace_commands.Migrating.{old_trace_limit}

-- Of any old trace that can be read: `replay` accepts what `migrate` writes of it, on each accepted design with its channels, and what is
-- replayed is the old trace itself.
abbrev pub MigratedTraceIsReplayed : Type 0
MigratedTraceIsReplayed = (old : List ℕ) (t : Trace) → EncodesOld t old → length old ≤ old_trace_limit
    → (design map design_text map_text : List ℕ) (files : Files) → IsRead text_limit design (Some files) design_text
    → IsRead text_limit map (Some files) map_text → (v : Device) → IsDevice design_text map_text v → t.channels ≡ v.map.channels
    → (trace : List ℕ) → get files trace ≡ Some (encode t)
    → IsReplayable design map trace (Some files) v t × ((u : Trace) → IsReplayable design map trace (Some files) v u → u ≡ t)
