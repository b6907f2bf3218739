use Rattle.std.proofs.Common.{◌≡◌, ◌++◌, map, drop}
use Rattle.vlog_elab.specs.Plain.{plain_instances}
use Rattle.flat_parts.specs.Seats.{base_of, seats_from}
use Rattle.flat_parts.proofs.bases.bases_of.Given as goal

abbrev pub invariant-loop-instance : goal.invariant-loop-instance
invariant-loop-instance l =
    l.bases ++ map base_of (seats_from l.instance-index l.next.net l.next.word (plain_instances (drop l.instance-index l.list)))
    ≡ map base_of (seats_from 0 0 0 (plain_instances l.list))
