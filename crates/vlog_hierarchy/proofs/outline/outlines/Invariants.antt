use Rattle.std.proofs.Common.{◌≡◌, ◌++◌, map, drop}
use Rattle.vlog_tree.specs.Plain.{plain_module}
use Rattle.vlog_hierarchy.specs.Outlines.{outline_of}
use Rattle.vlog_hierarchy.specs.Plain.{plain_outline}
use Rattle.vlog_hierarchy.proofs.outline.outlines.Given as goal

abbrev pub invariant-loop-module : goal.invariant-loop-module
invariant-loop-module l =
    map plain_outline l.outlines
    ++ map (outline_of (map plain_module l.index.modules.now)) (map plain_module (drop l.module-index l.index.modules.now))
    ≡ map (outline_of (map plain_module l.index.modules.now)) (map plain_module l.index.modules.now)
