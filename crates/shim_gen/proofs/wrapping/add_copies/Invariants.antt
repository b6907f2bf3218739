use Rattle.std.proofs.Common.{◌≡◌, ◌++◌, drop, map}
use Rattle.vlog_tree.specs.Plain.{plain_module}
use Rattle.shim_gen.proofs.wrapping.add_copies.Given as goal

abbrev pub invariant-loop-module : goal.invariant-loop-module
invariant-loop-module l =
    map plain_module l.modules ++ map plain_module (drop l.module-index l.design)
    ≡ map plain_module l.initial.modules ++ map plain_module l.design
