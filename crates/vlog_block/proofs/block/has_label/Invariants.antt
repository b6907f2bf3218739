use Rattle.std.proofs.Common.{◌≡◌, drop}
use Rattle.vlog_tree.specs.Plain.{plain_arms}
use Rattle.vlog_block.specs.Extends.{has_label}
use Rattle.vlog_block.proofs.block.has_label.Given as goal

abbrev pub invariant-loop-arm : goal.invariant-loop-arm
invariant-loop-arm l = has_label (plain_arms (drop l.arm-index l.arms)) ≡ has_label (plain_arms l.arms)
