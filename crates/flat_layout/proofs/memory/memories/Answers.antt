use Rattle.std.proofs.Common.{arith}
use Rattle.flat_layout.proofs.Entries.{all_memories}
use Rattle.flat_layout.proofs.memory.memories.Goals as goal

pub returns : goal.returns
returns c = all_memories c.args.instances.now c.loop-number.number c.loop-number.word c.loop-number.memories
    (omega (arith, c.loop-number-test.false)) c.loop-number.invariant
