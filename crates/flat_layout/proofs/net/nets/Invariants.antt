use Rattle.std.proofs.Common.{◌≡◌, ◌++◌, drop}
use Rattle.flat_parts.specs.vlog_elab.Plain.{plain_instances}
use Rattle.flat_layout.proofs.Entries.{numbered_nets}
use Rattle.flat_layout.proofs.net.nets.Given as goal

abbrev pub invariant-loop-number : goal.invariant-loop-number
invariant-loop-number l =
    l.nets ++ numbered_nets l.number (plain_instances (drop l.number l.instances)) ≡ numbered_nets 0 (plain_instances l.instances)
