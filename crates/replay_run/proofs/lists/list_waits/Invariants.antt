use Rattle.std.proofs.Common.{◌≡◌, ◌≤◌, ◌+◌, ◌-◌, ◌++◌, ℕ, List, drop, length}
use Rattle.std.specs.Prelude.{vec_len, vec_capacity}
use Rattle.std.specs.List.{enumerate_from, flat_map}
use Rattle.trace_code.specs.trace_model.declared.channel.Channel.{Channel}
use Rattle.trace_code.specs.trace_model.declared.row.Row.{Row}
use Rattle.trace_code.specs.trace_model.declared.trace.Trace.{Trace}
use Rattle.run_stage.specs.run_model.Replay.{done}
use Rattle.replay_run.specs.Behind.{epoch_at, AreBehind}
use Rattle.replay_run.specs.Lists.{IsKept}
use Rattle.replay_run.proofs.Listing.{waits_on}
use Rattle.replay_run.proofs.lists.list_waits.Given as goal

abbrev pub invariant-loop-c : goal.invariant-loop-c
invariant-loop-c l = record {
  listed : (t : Trace) (rows : List Row) → AreBehind t (done rows) l.cursors → t.channels ≡ l.channels
      → IsKept (length l.channels) rows l.have l.last
      → l.out.items ++ flat_map (λ (d : ℕ × Channel). waits_on l.helds l.cursors.epoch (epoch_at t l.cursors) rows d.0)
      (enumerate_from l.c (drop l.c l.channels))
      ≡ flat_map (λ (d : ℕ × Channel). waits_on l.helds l.cursors.epoch (epoch_at t l.cursors) rows d.0) (enumerate_from 0 l.channels);
  room : vec_len l.out + (length l.channels - l.c + 1) ≤ vec_capacity l.out;
}
