use Rattle.std.proofs.Common.{ℕ, ◌≤◌, drop}
use Rattle.net_instr.specs.Machine.{AreBelow}
use Rattle.net_instr.proofs.slots.slots_of.Given as goal

abbrev pub invariant-loop-instr : goal.invariant-loop-instr
invariant-loop-instr l = record {
  below : (limit : ℕ) → l.slots ≤ limit → AreBelow limit (drop l.instr-index l.code) → AreBelow limit l.code;
  least : l.least ≤ l.slots;
}
