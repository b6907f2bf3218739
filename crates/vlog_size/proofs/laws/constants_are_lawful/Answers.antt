use Rattle.vlog_size.proofs.Answered.{lawful_constant, lawful_assigned}
use Rattle.vlog_size.proofs.laws.constants_are_lawful.Goals as goal

pub returns : goal.returns
returns c = record {
  own = lawful_constant;
  assigned = lawful_assigned;
}
