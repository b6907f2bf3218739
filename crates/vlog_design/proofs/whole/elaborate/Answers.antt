use Rattle.vlog_tree.specs.Plain.{plain}
use Rattle.vlog_design.proofs.Counted.{counted-ok}
use Rattle.vlog_design.proofs.whole.elaborate.Goals as goal

pub returns-clause-counts : goal.returns-clause-counts
returns-clause-counts c =
    counted-ok c.parts_are_counted.ensures.nets c.parts_are_counted.ensures.words (plain c.args.file.now) c.args.top.now
    c.designed.result c.designed.ensures.design
