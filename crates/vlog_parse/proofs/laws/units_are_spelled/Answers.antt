use Rattle.vlog_parse.proofs.UnitWords.{units_spelled}
use Rattle.vlog_parse.proofs.laws.units_are_spelled.Goals as goal

pub returns : goal.returns
returns c = units_spelled
