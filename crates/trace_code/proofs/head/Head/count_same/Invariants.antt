use Rattle.std.proofs.Common.{◌≡◌, ℕ, ◌+◌, ◌*◌, ◌<◌, length, drop}
use Rattle.trace_code.specs.Heads.{IsHead}
use Rattle.trace_code.proofs.head.Head.count_same.Given as goal

abbrev pub invariant-loop-same : goal.invariant-loop-same
invariant-loop-same l = record {
  here : l.here ≡ drop (l.same * l.self.len) l.rest;
  alike : (i : ℕ) → i < l.same → IsHead (length l.self.sizes.items) l.self.reset l.self.starts l.self.ends (drop ((i + 1) * l.self.len) l.rest);
}
