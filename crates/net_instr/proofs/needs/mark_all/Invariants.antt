use Rattle.std.proofs.Common.{◌≡◌, drop}
use Rattle.net_instr.specs.Needs.{with_reads}
use Rattle.net_instr.proofs.needs.mark_all.Given as goal

abbrev pub invariant-loop-slot : goal.invariant-loop-slot
invariant-loop-slot l = with_reads (drop l.slot-index l.slots) l.marks ≡ with_reads l.slots l.initial.marks
