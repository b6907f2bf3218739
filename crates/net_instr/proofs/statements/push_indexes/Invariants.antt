use Rattle.std.proofs.Common.{◌≡◌, ◌+◌, ◌++◌, ◌≤◌, drop, length}
use Rattle.net_instr.specs.Statements.{all_slots, index_code}
use Rattle.net_instr.proofs.statements.push_indexes.Given as goal

abbrev pub invariant-places : goal.invariant-places
invariant-places l = record {
  same : l.code ≡ l.initial.code ++ index_code l.widths l.words (drop l.i l.target) l.t;
  inside : l.i ≤ length l.target;
  slots : l.t + all_slots (drop l.i l.target) ≡ l.initial.t;
}

abbrev pub decreases-places : goal.decreases-places
decreases-places l = l.i
