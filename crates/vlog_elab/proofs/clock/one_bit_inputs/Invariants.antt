use Rattle.std.proofs.Common.{◌≡◌, ◌++◌, false, map, drop}
use Rattle.vlog_tree.specs.Plain.{plain_port}
use Rattle.vlog_hierarchy.specs.Plain.{plain_path}
use Rattle.vlog_elab.specs.Clock.{one_bit_inputs}
use Rattle.vlog_elab.proofs.clock.one_bit_inputs.Given as goal

abbrev pub invariant-loop-port : goal.invariant-loop-port
invariant-loop-port l = plain_path l.inputs ++ one_bit_inputs l.nets l.before (map plain_port (drop l.port-index l.ports))
    ≡ one_bit_inputs l.nets false (map plain_port l.ports)
