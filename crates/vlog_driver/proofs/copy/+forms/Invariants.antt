use Rattle.std.proofs.Common.{◌≡◌, map, drop}
use Rattle.vlog_tree.specs.Plain.{plain_exprs, plain_target}
use Rattle.vlog_driver.specs.Items.{targets_of}
use Rattle.vlog_driver.proofs.Forms.{after}
use Rattle.vlog_driver.proofs.copy.+forms.Given as goal

abbrev pub invariant-part_forms-loop-part : goal.invariant-part_forms-loop-part
invariant-part_forms-loop-part l =
    after (map plain_target l.targets) (targets_of (plain_exprs (drop l.part-index l.parts))) ≡ targets_of (plain_exprs l.parts)
