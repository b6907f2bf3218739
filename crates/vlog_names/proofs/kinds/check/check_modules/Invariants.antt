use Rattle.std.proofs.Common.{◌≡◌, drop, map}
use Rattle.std.specs.List.{flat_map}
use Rattle.vlog_tree.specs.Plain.{plain_module}
use Rattle.vlog_names.specs.Uses.{in_module}
use Rattle.vlog_names.proofs.kinds.check.check_modules.Given as goal

abbrev pub invariant-loop-place : goal.invariant-loop-place
invariant-loop-place l =
    flat_map (in_module l.modules) (map plain_module (drop l.place l.all)) ≡ flat_map (in_module l.modules) (map plain_module l.all)
