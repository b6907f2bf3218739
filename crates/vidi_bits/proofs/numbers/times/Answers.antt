use Rattle.vidi_bits.proofs.NumberLemmas.{repeated_room, repeated_fits, repeated_next, rows_left}
use Rattle.vidi_bits.proofs.numbers.times.Goals as goal

pub join-all-requires-clause-fits : goal.join-all-requires-clause-fits
join-all-requires-clause-fits c =
    repeated_room c.loop-done.all c.loop-done._done c.args.w c.loop-done.invariant.fits
    (rows_left c.loop-done._done c.args.count c.args.w c.loop-done-test.true c.requires.all)

pub loop-done-preserved : goal.loop-done-preserved
loop-done-preserved c = record {
  same = repeated_next c.loop-done.all c.loop-done._done c.args.x c.args.w c.join-all.result c.join-all.ensures c.loop-done.invariant.same;
  fits = rw c.join-all.ensures (repeated_fits c.loop-done.all c.loop-done._done c.args.x c.args.w c.loop-done.invariant.fits);
}
