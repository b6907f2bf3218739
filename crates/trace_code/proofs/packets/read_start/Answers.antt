use Rattle.trace_code.proofs.PacketLoop.{nothing_read}
use Rattle.trace_code.proofs.packets.read_start.Goals as goal

pub returns-else-starts : goal.returns-else-starts
returns-else-starts c = rw c.if-starts.false (nothing_read c.args.numbers.now.items c.args.bytes.now)
