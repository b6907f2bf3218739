use Rattle.std.proofs.Common.{◌≡◌, ◌<◌, ◌≤◌, ◌*◌, ℕ, false, length, take}
use Rattle.trace_code.specs.vidi_bits.Number.{has}
use Rattle.trace_code.specs.trace_model.declared.trace.Trace.{Trace}
use Rattle.trace_code.specs.trace_model.Row.{all_widths}
use Rattle.run_stage.specs.chan_replayer.Feed.{IsFeedOver}
use Rattle.replay_run.specs.Behind.{epoch_at, AreBehind}
use Rattle.replay_run.specs.Feeding.{IsFeedBut}
use Rattle.replay_run.proofs.feeding.fill.Given as goal

abbrev pub invariant-loop-c : goal.invariant-loop-c
invariant-loop-c l = record {
  place : l.at ≡ length (all_widths (take l.c l.channels));
  small : l.at ≤ 16 * l.c;
  over : IsFeedOver l.channels l.feed;
  below : (d : ℕ) → d < l.c → has l.left d ≡ false;
  fed : (t : Trace) (have : ℕ → ℕ) → AreBehind t have l.cursors → t.channels ≡ l.channels
      → IsFeedBut l.which l.channels (epoch_at t l.cursors) have l.fn.feed → IsFeedBut l.left l.channels (epoch_at t l.cursors) have l.feed;
}
