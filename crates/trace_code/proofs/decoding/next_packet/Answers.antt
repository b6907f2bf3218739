use Rattle.std.proofs.Common.{refl}
use Rattle.trace_code.proofs.decoding.next_packet.Goals as goal

pub returns-in-Some-clause-follows : goal.returns-in-Some-clause-follows
returns-in-Some-clause-follows c ps = c.in-Some.ensures.some ps c.in-Ok.packet refl refl refl
