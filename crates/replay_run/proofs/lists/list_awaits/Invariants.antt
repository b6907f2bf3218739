use Rattle.std.proofs.Common.{◌≡◌, ◌≤◌, ◌+◌, ◌-◌, ◌++◌, ℕ, drop, length}
use Rattle.std.specs.Prelude.{slice_index, vec_len, vec_capacity}
use Rattle.std.specs.List.{enumerate_from, flat_map}
use Rattle.trace_code.specs.trace_model.declared.channel.Channel.{Channel}
use Rattle.trace_code.specs.trace_model.declared.packet.Packet.{Packet}
use Rattle.trace_code.specs.trace_model.declared.trace.Trace.{Trace}
use Rattle.trace_code.specs.trace_model.Counting.{IsNth}
use Rattle.trace_code.specs.trace_model.Packet.{does}
use Rattle.run_stage.specs.run_model.Held.{await_on, awaits}
use Rattle.trace_code.specs.Stands.{Stands}
use Rattle.replay_run.specs.Behind.{epoch_clock}
use Rattle.replay_run.proofs.lists.list_awaits.Given as goal

abbrev pub invariant-loop-c : goal.invariant-loop-c
invariant-loop-c l = record {
  listed : (t : Trace) (j p : ℕ) (packet : Packet) → Stands l.cursor t j → t.channels ≡ l.channels
      → IsNth (does l.cursor.kind l.cursor.channel) t.packets j p packet
      → l.out.items ++ flat_map (λ (d : ℕ × Channel). await_on (slice_index l.have) (epoch_clock t.packets p) d.0) (enumerate_from l.c (drop l.c l.channels))
      ≡ l.fn.out.items ++ awaits l.channels (slice_index l.have) (epoch_clock t.packets p);
  room : vec_len l.out + (length l.channels - l.c) ≤ vec_capacity l.out;
}
