use Rattle.std.proofs.Common.{◌≡◌, ℕ, length, slice_get, Some}
use Rattle.trace_code.specs.trace_model.declared.trace.Trace.{Trace}
use Rattle.trace_code.specs.declared.cursor.Cursor.{Cursor}
use Rattle.trace_code.specs.Encoding.{Encodes}
use Rattle.replay_run.specs.Behind.{IsBehind}
use Rattle.replay_run.proofs.cursors.first_cursors.Given as goal

abbrev pub invariant-loop-c : goal.invariant-loop-c
invariant-loop-c l = record {
  many : length l.cursors.items ≡ l.c;
  each : (t : Trace) → Encodes t l.bytes → (d : ℕ) (k : Cursor) → slice_get l.cursors.items d ≡ Some k → IsBehind t 0 l.kind d 0 k;
}
