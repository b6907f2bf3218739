use Rattle.trace_code.proofs.Tallying.{tallied-none}
use Rattle.std.proofs.Common.{◌∙◌}
use Rattle.trace_code.proofs.tally.Tally.new.Goals as goal

pub returns-clause-clock : goal.returns-clause-clock
returns-clause-clock c = tallied-none c.in_ok-clock.clock ∙ c.in_ok-clock.ensures
