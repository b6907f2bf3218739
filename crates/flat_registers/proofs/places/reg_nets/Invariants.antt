use Rattle.std.proofs.Common.{◌≡◌, ◌++◌, drop}
use Rattle.flat_parts.specs.vlog_elab.Plain.{plain_instances}
use Rattle.flat_registers.specs.Places.{plain_places, regs_of}
use Rattle.flat_registers.proofs.places.reg_nets.Given as goal

abbrev pub invariant-loop-instance : goal.invariant-loop-instance
invariant-loop-instance l =
    plain_places l.out ++ regs_of l.first (plain_instances (drop l.instance-index l.list)) ≡ regs_of 0 (plain_instances l.list)
