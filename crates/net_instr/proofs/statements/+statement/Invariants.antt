use Rattle.std.proofs.Common.{◌≡◌, ◌++◌, ◌≤◌, List, drop, length}
use Rattle.net_instr.specs.declared.instr.Instr.{Instr}
use Rattle.net_instr.specs.Statements.{block_code, guard_code}
use Rattle.net_instr.proofs.statements.+statement.Given as goal

abbrev pub invariant-push_guards-guards : goal.invariant-push_guards-guards
invariant-push_guards-guards l = record {
  same : (front ys : List Instr) → length front ≡ l.start → l.initial.code ≡ front ++ ys
      → l.code ≡ front ++ guard_code l.widths l.words l.offset (drop l.i l.guards) ys;
  inside : l.i ≤ length l.guards;
  start : l.start ≤ length l.code;
}

abbrev pub invariant-push_acts-acts : goal.invariant-push_acts-acts
invariant-push_acts-acts l = record {
  same : l.code ≡ l.initial.code ++ block_code l.widths l.words l.offset (drop l.i l.acts);
  inside : l.i ≤ length l.acts;
}

abbrev pub decreases-push_guards-guards : goal.decreases-push_guards-guards
decreases-push_guards-guards l = l.i

abbrev pub decreases-push_acts-acts : goal.decreases-push_acts-acts
decreases-push_acts-acts l = l.i
