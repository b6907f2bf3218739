use Rattle.std.proofs.Common.{◌≡◌, drop, map}
use Rattle.vlog_tree.specs.Plain.{plain_module}
use Rattle.shim_trees.specs.Wrapped.{module_named}
use Rattle.shim_gen.proofs.wrapping.ports_of.Given as goal

abbrev pub invariant-loop-module : goal.invariant-loop-module
invariant-loop-module l =
    module_named (map plain_module (drop l.module-index l.modules)) l.name ≡ module_named (map plain_module l.modules) l.name
