use Rattle.std.proofs.Common.{◌≡◌, ◌&&◌, false, not, slice_index_or}
use Rattle.run_model.specs.vidi_bits.Number.{has}
use Rattle.run_model.specs.Building.{ends_of, mask_of}
use Rattle.chan_monitor.proofs.rows.marks_of.Given as goal

abbrev pub invariant-loop-c : goal.invariant-loop-c
invariant-loop-c l = record {
  starts : l.marks.starts
      ≡ mask_of (λ c. (has l.shown.valids c && has l.shown.gates c) && not (slice_index_or l.monitors c false)) l.c;
  ends : l.marks.ends ≡ ends_of l.c l.shown.valids l.shown.gates l.shown.readies;
}
