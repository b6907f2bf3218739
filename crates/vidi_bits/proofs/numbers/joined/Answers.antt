use Rattle.vidi_bits.proofs.NumberLemmas.{trimmed_room}
use Rattle.vidi_bits.proofs.numbers.joined.Goals as goal

pub join-requires-clause-fits : goal.join-requires-clause-fits
join-requires-clause-fits c = rw c.trim.ensures (trimmed_room c.args.high c.args.high_width c.args.low_width c.requires.both)
