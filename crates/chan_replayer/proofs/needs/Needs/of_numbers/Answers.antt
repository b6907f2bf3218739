use Rattle.chan_replayer.proofs.Sharing.{clocks-own}
use Rattle.chan_replayer.proofs.needs.Needs.of_numbers.Goals as goal

pub returns : goal.returns
returns c =
    let own = c.in_ok-places.ensures in
    clocks-own c.args.channels c.in_ok-places.places c.in_ok-places.users c.args.numbers own.0 c.requires.long own.1 own.2
