use Rattle.std.proofs.Common.{◌<◌, ◌^◌, ◌&&◌, false, not, slice_index_or, subst, sym}
use Rattle.run_model.specs.vidi_bits.Number.{has}
use Rattle.run_model.proofs.Contents.{mask-below, mask-more}
use Rattle.chan_monitor.proofs.Filling.{start-is, end-is}
use Rattle.chan_monitor.proofs.rows.marks_of.Goals as goal

pub with_bit-requires-clause-below : goal.with_bit-requires-clause-below
with_bit-requires-clause-below c = subst (λ m. m < 2 ^ c.loop-c.c) (sym c.loop-c.invariant.starts) (mask-below _ c.loop-c.c)

pub with_bit-requires-in-loop-c-clause-below : goal.with_bit-requires-in-loop-c-clause-below
with_bit-requires-in-loop-c-clause-below c = subst (λ m. m < 2 ^ c.loop-c.c) (sym c.loop-c.invariant.ends) (mask-below _ c.loop-c.c)

pub loop-c-preserved : goal.loop-c-preserved
loop-c-preserved c = record {
  starts = mask-more (λ k. (has c.args.shown.valids k && has c.args.shown.gates k) && not (slice_index_or c.args.monitors.now k false))
      c.loop-c.c c.pass-passed.result.starts c.loop-c.marks.starts c.with_bit.result
      (start-is c.args.monitors.now c.loop-c.c c.index-monitors-c.result c.pass-passed.result c.args.shown.gates c.args.shown.valids
      c.args.shown.readies c.names-up.result c.names.result c.names-in-loop-c.result c.loop-c-test.true c.index-monitors-c.is
      c.names-up.ensures c.names.ensures c.names-in-loop-c.ensures c.pass-passed.ensures.value)
      c.with_bit.ensures c.loop-c.invariant.starts;
  ends = mask-more (λ k. (has c.args.shown.valids k && has c.args.shown.gates k) && has c.args.shown.readies k)
      c.loop-c.c c.pass-passed.result.ends c.loop-c.marks.ends c.with_bit-in-loop-c.result
      (end-is c.loop-c.c c.index-monitors-c.result c.pass-passed.result c.args.shown.gates c.args.shown.valids
      c.args.shown.readies c.names-up.result c.names.result c.names-in-loop-c.result
      c.names-up.ensures c.names.ensures c.names-in-loop-c.ensures c.pass-passed.ensures.value)
      c.with_bit-in-loop-c.ensures c.loop-c.invariant.ends;
}
