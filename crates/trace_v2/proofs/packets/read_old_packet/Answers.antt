use Rattle.std.proofs.Common.{arith}
use Rattle.trace_v2.proofs.OldPackets.{is_found, is_only}
use Rattle.trace_v2.proofs.packets.read_old_packet.Goals as goal

pub returns-clause-found : goal.returns-clause-found
returns-clause-found c = is_found c.args.channels.now c.args.bytes.now (λ x. (x.0, x.1.now)) c.read_old_fields.result
    (λ i. omega (arith, c.type_inv.bytes i)) c.read_old_fields.ensures

pub returns-clause-only : goal.returns-clause-only
returns-clause-only c = is_only c.args.channels.now c.args.bytes.now (λ x. (x.0, x.1.now)) c.read_old_fields.result
    c.read_old_fields.ensures
