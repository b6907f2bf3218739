use Rattle.flat_layout.proofs.Entries.{next_memory}
use Rattle.flat_layout.proofs.memory.add_memories.Goals as goal

pub loop-place-preserved : goal.loop-place-preserved
loop-place-preserved c =
    next_memory c.args.number c.args.first c.loop-place.word c.loop-place.place c.in_ok-word.word c.args.list.now c.args.memories.now
    c.loop-place.memories c.push.new.self c.in_ok-memory.memory c.loop-place.invariant c.in_ok-memory.ensures c.in_ok-word.ensures
    c.in_ok-push.ensures.ok
