use Rattle.net_lawful.proofs.RoomLaws.{no_rooms}
use Rattle.net_lawful.proofs.rooms.Rooms.new.Goals as goal

pub returns : goal.returns
returns c = no_rooms (record { extents = c.new.result }) c.new.ensures.empty
