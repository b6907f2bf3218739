use Rattle.std.proofs.Common.{◌≡◌, drop, map}
use Rattle.vlog_tree.specs.Plain.{plain_module}
use Rattle.shim_trees.specs.Wrapped.{reserved_names}
use Rattle.shim_gen.proofs.wrapping.check_names.Given as goal

abbrev pub invariant-loop-module : goal.invariant-loop-module
invariant-loop-module l =
    reserved_names (record { modules = map plain_module (drop l.module-index l.modules) })
    ≡ reserved_names (record { modules = map plain_module l.modules })
