use Rattle.std.proofs.Common.{ap, ◌∙◌}
use Rattle.net_design.specs.declared.design.DesignMemory.{DesignMemory}
use Rattle.net_lawful.proofs.RoomLaws.{words_more, room_more}
use Rattle.net_lawful.proofs.frame.have_rooms.Goals as goal

pub loop-i-preserved : goal.loop-i-preserved
loop-i-preserved c =
    let ms = c.args.memories.now in
    record {
      total = words_more ms c.loop-i.i c.index-memories-i-in-loop-i.result c.loop-i.total c.index-memories-i-in-loop-i.is
          c.loop-i.invariant.total c.loop-i-test.true;
      each = room_more ms c.loop-i.i c.index-memories-i.result c.loop-i.total c.index-memories-i.is c.loop-i.invariant.total
          (ap (λ (x : DesignMemory). x.room.first) c.index-memories-i.is ∙ c.if-memories-i.false) c.loop-i.invariant.each;
    }
