use Rattle.std.proofs.Common.{◌≡◌, drop, map}
use Rattle.std.specs.List.{flat_map}
use Rattle.vlog_tree.specs.Plain.{plain_module}
use Rattle.vlog_names.specs.Unknown.{unknown_module}
use Rattle.vlog_names.proofs.check.known_modules.Given as goal

abbrev pub invariant-loop-place : goal.invariant-loop-place
invariant-loop-place l =
    flat_map (unknown_module l.modules) (map plain_module (drop l.place l.all))
    ≡ flat_map (unknown_module l.modules) (map plain_module l.all)
