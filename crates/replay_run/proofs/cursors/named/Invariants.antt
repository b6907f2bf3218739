use Rattle.std.proofs.Common.{◌≡◌, ◌<◌, ◌^◌, ℕ, true}
use Rattle.std.specs.Prelude.{◌↔◌}
use Rattle.trace_code.specs.vidi_bits.Number.{has}
use Rattle.trace_code.specs.trace_model.declared.event.Kind.{Kind}
use Rattle.trace_code.specs.trace_model.declared.trace.Trace.{Trace}
use Rattle.trace_code.specs.trace_model.Epoch.{epoch}
use Rattle.trace_code.specs.trace_model.Packet.{count}
use Rattle.replay_run.specs.Behind.{HasCursors}
use Rattle.replay_run.proofs.cursors.named.Given as goal

abbrev pub invariant-loop-c : goal.invariant-loop-c
invariant-loop-c l = record {
  below : l.more < 2 ^ l.c;
  named : (t : Trace) (kind : Kind) (have : ℕ → ℕ) → HasCursors t l.epoch kind have l.cursors → (d : ℕ) → d < l.c
      → (has l.more d ≡ true) ↔ (have d < count kind d (epoch l.epoch t.packets));
}
