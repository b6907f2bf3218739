use Rattle.std.proofs.Common.{◌≡◌, take}
use Rattle.flat_parts.specs.vlog_hierarchy.Plain.{plain_path}
use Rattle.flat_drivers.proofs.child.is_same_path.Given as goal

abbrev pub invariant-loop-k : goal.invariant-loop-k
invariant-loop-k l = plain_path (take l.k l.a) ≡ plain_path (take l.k l.b)
