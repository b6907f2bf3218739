use Rattle.std.proofs.Common.{◌≡◌, ◌≤◌, ◌<◌, ◌+◌, ◌⊎◌, ℕ, get_or}
use Rattle.chan_replayer.proofs.needs.write_clock.Given as goal

abbrev pub invariant-loop-d : goal.invariant-loop-d
invariant-loop-d g l = record {
  here : (e : ℕ) → e < l.d → goal.F-post g l.number e (get_or l.clocks (l.at + e) 0);
  others : (i : ℕ) → (i < l.at) ⊎ (l.at + l.channels ≤ i) → get_or l.clocks i 0 ≡ get_or l.fn.clocks i 0;
}
