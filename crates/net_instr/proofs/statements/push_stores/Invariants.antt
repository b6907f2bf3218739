use Rattle.std.proofs.Common.{◌≡◌, ◌+◌, ◌++◌, ◌≤◌, drop, length}
use Rattle.net_design.specs.Updates.{target_width}
use Rattle.net_instr.specs.Statements.{all_slots, stores}
use Rattle.net_instr.proofs.statements.push_stores.Given as goal

abbrev pub invariant-places : goal.invariant-places
invariant-places l = record {
  same : l.code ≡ l.initial.code ++ stores l.widths l.words l.offset (drop l.i l.target) l.t;
  inside : l.i ≤ length l.target;
  slots : l.t + all_slots (drop l.i l.target) ≡ l.initial.t;
  rest : l.rest ≡ target_width (drop l.i l.target);
}

abbrev pub decreases-places : goal.decreases-places
decreases-places l = l.i
