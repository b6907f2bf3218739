use Rattle.std.proofs.Common.{◌≡◌, ◌++◌, drop, map}
use Rattle.std.specs.List.{flat_map}
use Rattle.vlog_tree.specs.Plain.{plain_port}
use Rattle.shim_trees.specs.Links.{tied_port}
use Rattle.shim_gen.proofs.design.add_ports_of.Given as goal

abbrev pub invariant-loop-port : goal.invariant-loop-port
invariant-loop-port l =
    map plain_port l.ports ++ flat_map (tied_port l.widths) (map plain_port (drop l.port-index l.design))
    ≡ map plain_port l.initial.ports ++ flat_map (tied_port l.widths) (map plain_port l.design)
