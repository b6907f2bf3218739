use Rattle.std.proofs.Common.{drop}
use Rattle.flat_layout.proofs.Entries.{IsBefore}
use Rattle.flat_layout.proofs.memory.add_memories.Given as goal

abbrev pub invariant-loop-place : goal.invariant-loop-place
invariant-loop-place l = IsBefore l.number l.first l.word l.list (drop l.place l.list) l.initial.memories l.memories
