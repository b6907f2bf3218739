use Rattle.std.proofs.Common.{◌≡◌, ◌≤◌, ◌+◌, ◌-◌, ◌++◌, ℕ, List, drop, length}
use Rattle.std.specs.Prelude.{vec_len, vec_capacity}
use Rattle.std.specs.List.{enumerate_from, flat_map}
use Rattle.trace_code.specs.trace_model.declared.channel.Channel.{Channel}
use Rattle.trace_code.specs.trace_model.declared.row.Row.{Row}
use Rattle.trace_code.specs.trace_model.declared.trace.Trace.{Trace}
use Rattle.run_stage.specs.run_model.Held.{controlled_in, held_event, held_in}
use Rattle.run_stage.specs.run_model.Replay.{done}
use Rattle.replay_run.specs.Behind.{epoch_at, AreBehind}
use Rattle.replay_run.specs.Lists.{AreSpare, IsKept}
use Rattle.replay_run.proofs.lists.list_held.Given as goal

abbrev pub invariant-loop-c : goal.invariant-loop-c
invariant-loop-c l = record {
  listed : (t : Trace) (rows : List Row) → AreBehind t (done rows) l.cursors → t.channels ≡ l.channels
      → IsKept (length l.channels) rows l.have l.last
      → l.out.items ++ flat_map (λ (d : ℕ × Channel). flat_map (held_event l.channels (epoch_at t l.cursors) rows)
      (controlled_in l.cursors.epoch rows d.0 d.1.dir)) (enumerate_from l.c (drop l.c l.channels))
      ≡ held_in l.cursors.epoch l.channels (epoch_at t l.cursors) rows;
  room : vec_len l.out + (length l.channels - l.c + 1) ≤ vec_capacity l.out;
  spare : AreSpare (length l.channels) (length l.channels - l.c + 1) l.spare.items;
}
