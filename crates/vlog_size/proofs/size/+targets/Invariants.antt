use Rattle.std.proofs.Common.{drop}
use Rattle.vlog_tree.specs.Plain.{plain_targets}
use Rattle.vlog_size.specs.Names.{readable_in}
use Rattle.vlog_size.specs.Size.{sizes_of_targets}
use Rattle.vlog_size.specs.Facts.{ShowsRest}
use Rattle.vlog_size.proofs.size.+targets.Given as goal

abbrev pub invariant-targets_facts-loop-part : goal.invariant-targets_facts-loop-part
invariant-targets_facts-loop-part l =
    ShowsRest l.so_far (sizes_of_targets (readable_in l.view) (plain_targets (drop l.part-index l.parts)))
    (sizes_of_targets (readable_in l.view) (plain_targets l.parts))
