use Rattle.vlog_size.proofs.Answered.{lawful_width_of, lawful_target_of}
use Rattle.vlog_size.proofs.laws.widths_are_lawful.Goals as goal

pub returns : goal.returns
returns c = record {
  expressions = lawful_width_of;
  targets = lawful_target_of;
}
