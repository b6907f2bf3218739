use Rattle.std.proofs.Common.{◌≡◌, ℕ, ◌+◌, ◌<◌, ◌≤◌, get_or}
use Rattle.std.specs.Int.{bit_at}
use Rattle.report_text.proofs.trace_text.count_ends.Given as goal

abbrev pub invariant-loop-channel : goal.invariant-loop-channel
invariant-loop-channel l = record {
  done : (c : ℕ) → c < l.channel → get_or l.completed c 0 ≡ get_or l.initial.completed c 0 + bit_at l.ends c;
  rest : (c : ℕ) → l.channel ≤ c → get_or l.completed c 0 ≡ get_or l.initial.completed c 0;
}
