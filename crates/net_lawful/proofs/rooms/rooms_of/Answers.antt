use Rattle.net_lawful.proofs.RoomLaws.{one_more_room}
use Rattle.net_lawful.proofs.rooms.rooms_of.Goals as goal

pub loop-memory-preserved : goal.loop-memory-preserved
loop-memory-preserved c =
    one_more_room c.args.memories.now c.requires.rooms c.requires.some c.loop-memory.memory-index c.memory-item.result
    c.loop-memory-test.true c.memory-item.is c.loop-memory.rooms c.add.new.self c.loop-memory.invariant c.in_ok-add.ensures
