use Rattle.std.proofs.Common.{◌≡◌, ◌||◌, true, map, drop}
use Rattle.std.specs.List.{list_any}
use Rattle.std.specs.Str.{bytes_eq}
use Rattle.vlog_tree.specs.Plain.{plain_port}
use Rattle.flat_parts.specs.vlog_driver.Names.{Name}
use Rattle.flat_drive.specs.Marked.{inputs_after, is_listed}
use Rattle.flat_drive.proofs.pins.inputs_among.Given as goal

abbrev pub invariant-loop-port : goal.invariant-loop-port
invariant-loop-port l = (name : Name) →
    (is_listed l.inputs name || list_any (bytes_eq name) (inputs_after l.before (map plain_port (drop l.port-index l.ports))))
    ≡ list_any (bytes_eq name) (inputs_after true (map plain_port l.ports))
