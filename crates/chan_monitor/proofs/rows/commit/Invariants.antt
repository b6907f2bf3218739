use Rattle.std.proofs.Common.{◌≡◌, ℕ, ◌<◌, false, slice_index_or}
use Rattle.run_model.specs.vidi_bits.Number.{has}
use Rattle.chan_monitor.specs.Passing.{stays}
use Rattle.chan_monitor.proofs.rows.commit.Given as goal

abbrev pub invariant-loop-c : goal.invariant-loop-c
invariant-loop-c l = (k : ℕ) → k < l.c → slice_index_or l.monitors k false
    ≡ stays (has l.shown.gates k) (has l.shown.valids k) (has l.shown.readies k)
