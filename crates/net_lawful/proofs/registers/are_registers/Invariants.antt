use Rattle.std.proofs.Common.{ℕ, ◌<◌, slice_index_or}
use Rattle.net_design.specs.declared.design.Register.{Register}
use Rattle.net_design.specs.Lawful.{IsRegister}
use Rattle.net_lawful.proofs.registers.are_registers.Given as goal

abbrev pub invariant-loop-register : goal.invariant-loop-register
invariant-loop-register l = (k : ℕ) (r : Register) → k < l.register-index → IsRegister l.design (slice_index_or l.register-items k r)
