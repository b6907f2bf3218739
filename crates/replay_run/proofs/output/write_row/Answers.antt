use Rattle.std.proofs.Common.{arith}
use Rattle.trace_code.proofs.RowBytes.{packet-most}
use Rattle.replay_run.proofs.output.write_row.Goals as goal

pub returns-clause-most : goal.returns-clause-most
returns-clause-most c =
    let e = c.write_packet-written.ensures.len in
    let m = packet-most c.args.channels.now c.args.row.now.starts c.args.row.now.ends in
    omega (arith, e, m)
