use Rattle.std.proofs.Common.{refl}
use Rattle.trace_code.proofs.Skips.{front-whole}
use Rattle.trace_code.proofs.salvaging.salvage_front.Goals as goal

pub returns : goal.returns
returns c =
    let cs = c.in_ok-channels.channels in
    let found = c.in_ok-channels.ensures.found in
    let skipped = rw c.as_slice.ensures at c.skip_packets-packets.ensures in (
      record { channels = cs; packets = skipped.0 },
      front-whole cs c.args.bytes.now c.in_ok-channels.rest.now c.skip_packets-packets.result.1.now skipped.0 _ found.0 found.1 skipped.2
          refl skipped.1,
    )
