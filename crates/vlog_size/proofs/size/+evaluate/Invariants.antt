use Rattle.std.proofs.Common.{drop}
use Rattle.vlog_tree.specs.Plain.{plain_exprs}
use Rattle.vlog_size.specs.Names.{readable_in}
use Rattle.vlog_size.specs.Size.{sizes_of_all}
use Rattle.vlog_size.specs.Facts.{ShowsGathered}
use Rattle.vlog_size.proofs.size.+evaluate.Given as goal

abbrev pub invariant-gather-loop-part : goal.invariant-gather-loop-part
invariant-gather-loop-part l =
    ShowsGathered l.so_far (sizes_of_all (readable_in l.view) (plain_exprs (drop l.part-index l.parts)))
    (sizes_of_all (readable_in l.view) (plain_exprs l.parts))
