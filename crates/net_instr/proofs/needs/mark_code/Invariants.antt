use Rattle.std.proofs.Common.{◌≡◌, drop}
use Rattle.net_instr.specs.Needs.{with_code}
use Rattle.net_instr.proofs.needs.mark_code.Given as goal

abbrev pub invariant-loop-instr : goal.invariant-loop-instr
invariant-loop-instr l = with_code (drop l.instr-index l.code) l.left l.marks ≡ with_code l.code 0 l.initial.marks
