use Rattle.std.proofs.Common.{arith}
use Rattle.chan_replayer.proofs.Sharing.{clock-within}
use Rattle.chan_replayer.proofs.needs.clock_from.Goals as goal

pub split_at-requires : goal.split_at-requires
split_at-requires c =
    let w = clock-within c.args.channels c.args.place c.requires.place in
    let l = c.requires.long in
    omega (arith, w, l)
