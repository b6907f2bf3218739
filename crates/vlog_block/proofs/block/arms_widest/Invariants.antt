use Rattle.std.proofs.Common.{◌≡◌, drop}
use Rattle.vlog_tree.specs.Plain.{plain_arms}
use Rattle.vlog_block.specs.Sources.{names_of}
use Rattle.vlog_block.specs.Updates.{arms_widest}
use Rattle.vlog_block.specs.Faultless.{AreFaultlessArms}
use Rattle.vlog_block.proofs.block.arms_widest.Given as goal

abbrev pub invariant-loop-arm : goal.invariant-loop-arm
invariant-loop-arm l =
    let r = names_of l.scope in
    let rest = plain_arms (drop l.arm-index l.arms) in
    record {
      same : arms_widest r rest l.most ≡ arms_widest r (plain_arms l.arms) l.initial.most;
      faultless : AreFaultlessArms r rest;
    }
