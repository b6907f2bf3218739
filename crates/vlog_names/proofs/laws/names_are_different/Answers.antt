use Rattle.vlog_names.proofs.Different.{modules_differ, names_differ}
use Rattle.vlog_names.proofs.laws.names_are_different.Goals as goal

pub returns : goal.returns
returns c = record { modules = modules_differ; names = names_differ }
