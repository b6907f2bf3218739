use Rattle.std.proofs.Common.{List, Bool, ap, ◌∙◌}
use Rattle.vlog_hierarchy.proofs.Marks.{marked_with, all_marked}
use Rattle.vlog_hierarchy.proofs.clock.marks_of.Goals as goal

pub loop-port-init : goal.loop-port-init
loop-port-init c =
    ap (λ (bs : List Bool). marked_with bs c.args.ports.now) c.in_ok-marks.ensures ∙ all_marked c.args.inputs c.args.ports.now
