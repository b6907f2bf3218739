use Rattle.std.proofs.Common.{◌≡◌, ℕ, take}
use Rattle.std.specs.List.{list_any}
use Rattle.net_design.specs.declared.rhs.Room.{Room}
use Rattle.net_lawful.specs.Rooms.{has_room, is_room_of}
use Rattle.net_lawful.proofs.rooms.rooms_of.Given as goal

abbrev pub invariant-loop-memory : goal.invariant-loop-memory
invariant-loop-memory l =
    (r : Room) (n : ℕ) → has_room l.rooms r n ≡ list_any (is_room_of r n) (take l.memory-index l.memories)
