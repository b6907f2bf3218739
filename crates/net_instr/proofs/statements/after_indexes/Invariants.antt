use Rattle.std.proofs.Common.{◌≡◌, ◌+◌, ◌^◌, ◌<◌, drop}
use Rattle.net_instr.specs.Statements.{all_slots}
use Rattle.net_instr.proofs.statements.after_indexes.Given as goal

abbrev pub invariant-loop-place : goal.invariant-loop-place
invariant-loop-place l = record {
  same : l.end + all_slots (drop l.place-index l.target) ≡ l.initial.end + all_slots l.target;
  few : l.end + 8 < 2 ^ 32;
}
