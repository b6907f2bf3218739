use Rattle.std.proofs.Common.{◌∙◌}
use Rattle.trace_code.proofs.Tallying.{tallied-none}
use Rattle.trace_code.proofs.tally.Tally.reset.Goals as goal

pub returns-clause-zeros : goal.returns-clause-zeros
returns-clause-zeros c = tallied-none c.clear.new.self ∙ c.clear.ensures
