use Rattle.std.proofs.Common.{◌≡◌, ◌++◌, drop, map}
use Rattle.vlog_tree.specs.Plain.{plain_port, plain_conn}
use Rattle.shim_trees.specs.Links.{dut_conn}
use Rattle.shim_gen.proofs.design.add_design_conns.Given as goal

abbrev pub invariant-loop-port : goal.invariant-loop-port
invariant-loop-port l =
    map plain_conn l.conns ++ map (dut_conn l.nets) (map plain_port (drop l.port-index l.ports))
    ≡ map plain_conn l.initial.conns ++ map (dut_conn l.nets) (map plain_port l.ports)
