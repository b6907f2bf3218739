use Rattle.std.proofs.Common.{◌∙◌}
use Rattle.vlog_names.proofs.Places.{declared_at}
use Rattle.vlog_names.proofs.table.names_at.Goals as goal

pub returns : goal.returns
returns c = λ ms is. c.value_at.ensures ∙ declared_at ms c.args.modules.now c.args.place is
