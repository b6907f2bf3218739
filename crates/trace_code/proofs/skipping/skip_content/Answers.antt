use Rattle.std.proofs.Common.{[], ◌∷◌, ◌++◌}
use Rattle.trace_code.specs.PacketReading.{numbers_at}
use Rattle.trace_code.proofs.PacketLoop.{number_goes_on, number_lacks, number_is_done}
use Rattle.trace_code.proofs.skipping.skip_content.Goals as goal

pub returns-in_err-rest : goal.returns-in_err-rest
returns-in_err-rest c =
    let inv = c.loop-width.invariant in
    rw c.from_residual.ensures (number_lacks inv.0 c.args.widths.now c.loop-width.width-index c.loop-width.rest.now
    (numbers_at c.args.widths.now c.args.bytes.now) c.loop-width-test.true c.in_err-rest.ensures inv.1)

pub loop-width-preserved : goal.loop-width-preserved
loop-width-preserved c =
    let inv = c.loop-width.invariant in
    let there = c.in_ok-rest.ensures in (
      inv.0 ++ there.0 ∷ [],
      number_goes_on inv.0 c.args.widths.now c.loop-width.width-index c.loop-width.rest.now there.0 c.in_ok-rest.rest.now
          (numbers_at c.args.widths.now c.args.bytes.now) c.loop-width-test.true there.1 inv.1,
    )

pub returns : goal.returns
returns c =
    let inv = c.loop-width.invariant in (
      inv.0,
      number_is_done inv.0 c.args.widths.now c.loop-width.width-index c.loop-width.rest.now (numbers_at c.args.widths.now c.args.bytes.now)
          c.loop-width-test.false inv.1,
    )
