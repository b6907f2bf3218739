use Rattle.std.proofs.Common.{◌≡◌, [], drop}
use Rattle.vlog_hierarchy.specs.Plain.{plain_path}
use Rattle.vlog_hierarchy.specs.Clock.{ports_from}
use Rattle.vlog_hierarchy.proofs.scopes.top_joined.Given as goal

abbrev pub invariant-loop-port : goal.invariant-loop-port
invariant-loop-port l = ports_from l.port l.joined (plain_path (drop l.port l.inputs)) ≡ ports_from 0 [] (plain_path l.inputs)
