use Rattle.std.proofs.Common.{◌≡◌, ◌+◌, ◌-◌, ◌≤◌, ◌++◌, ℕ, length}
use Rattle.std.specs.List.{flat_map, range_with_len}
use Rattle.vec_clock.specs.trace_model.Epoch.{epoch}
use Rattle.trace_compare.specs.Findings.{epochs_in_both, findings_in}
use Rattle.trace_compare.proofs.comparing.compare.Given as goal

abbrev pub invariant-loop-epoch : goal.invariant-loop-epoch
invariant-loop-epoch l = record {
  found : l.report ++ flat_map (findings_in l.fn.a.channels l.fn.a.packets l.fn.b.packets)
      (range_with_len l.epoch (epochs_in_both l.fn.a.packets l.fn.b.packets - l.epoch))
      ≡ flat_map (findings_in l.fn.a.channels l.fn.a.packets l.fn.b.packets)
      (range_with_len 0 (epochs_in_both l.fn.a.packets l.fn.b.packets));
  rest_a : (e : ℕ) → epoch e l.rest_a ≡ epoch (e + l.epoch) l.fn.a.packets;
  rest_b : (e : ℕ) → epoch e l.rest_b ≡ epoch (e + l.epoch) l.fn.b.packets;
  few_a : length l.rest_a ≤ length l.fn.a.packets;
  few_b : length l.rest_b ≤ length l.fn.b.packets;
}
