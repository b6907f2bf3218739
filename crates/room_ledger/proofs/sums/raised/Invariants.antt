use Rattle.std.proofs.Common.{◌≡◌, ◌≤◌, drop}
use Rattle.room_ledger.specs.Raising.{raise}
use Rattle.room_ledger.proofs.sums.raised.Given as goal

abbrev pub invariant-loop-c : goal.invariant-loop-c
invariant-loop-c l = record {
  rest : raise l.head l.capacity (drop l.c l.sizes) l.c l.total l.up ≡ raise l.head l.capacity l.sizes 0 l.claimed l.gates;
  within : l.total ≤ l.limit;
}
