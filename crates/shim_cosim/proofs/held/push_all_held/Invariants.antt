use Rattle.std.proofs.Common.{◌≡◌, ◌++◌, drop, map}
use Rattle.std.specs.List.{flat_map}
use Rattle.vlog_tree.specs.Plain.{plain_port}
use Rattle.shim_cosim.specs.Held.{held_number}
use Rattle.shim_cosim.proofs.held.push_all_held.Given as goal

abbrev pub invariant-loop-port : goal.invariant-loop-port
invariant-loop-port l =
    l.pins ++ flat_map (held_number l.numbers) (map plain_port (drop l.port-index l.ports))
    ≡ l.fn.pins ++ flat_map (held_number l.numbers) (map plain_port l.ports)
