use Rattle.std.proofs.Common.{take}
use Rattle.flat_parts.specs.vlog_elab.Plain.{plain_instances}
use Rattle.flat_layout.specs.Layout.{AreInstances}
use Rattle.flat_layout.proofs.instance.instances.Given as goal

abbrev pub invariant-loop-number : goal.invariant-loop-number
invariant-loop-number l = AreInstances l.out (take l.number (plain_instances l.list))
