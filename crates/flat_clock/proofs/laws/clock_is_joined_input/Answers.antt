use Rattle.flat_clock.proofs.Named.{clock_is_input}
use Rattle.flat_clock.proofs.Placed.{clock_is_port}
use Rattle.flat_clock.proofs.laws.clock_is_joined_input.Goals as goal

pub returns-clause-input : goal.returns-clause-input
returns-clause-input c = clock_is_input

pub returns-clause-port : goal.returns-clause-port
returns-clause-port c = clock_is_port
