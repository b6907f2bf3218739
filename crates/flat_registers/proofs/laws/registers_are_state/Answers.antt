use Rattle.flat_registers.proofs.Regs.{held_alike}
use Rattle.flat_registers.proofs.Initial.{initial_alike}
use Rattle.flat_registers.proofs.laws.registers_are_state.Goals as goal

pub returns-clause-held : goal.returns-clause-held
returns-clause-held c = held_alike

pub returns-clause-initial : goal.returns-clause-initial
returns-clause-initial c = initial_alike
