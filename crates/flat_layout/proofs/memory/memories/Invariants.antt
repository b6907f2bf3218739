use Rattle.std.proofs.Common.{◌≡◌, ◌++◌, drop}
use Rattle.flat_parts.specs.vlog_elab.Plain.{plain_instances}
use Rattle.flat_layout.proofs.Entries.{numbered_memories}
use Rattle.flat_layout.proofs.memory.memories.Given as goal

abbrev pub invariant-loop-number : goal.invariant-loop-number
invariant-loop-number l =
    l.memories ++ numbered_memories l.number l.word (plain_instances (drop l.number l.instances))
    ≡ numbered_memories 0 0 (plain_instances l.instances)
