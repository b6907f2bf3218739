use Rattle.std.proofs.Common.{arith}
use Rattle.run_reference.proofs.PortLemmas.{few-ports, first-suc}
use Rattle.run_reference.proofs.pins.first_place.Goals as goal

pub overflow_add-first : goal.overflow_add-first
overflow_add-first c =
    omega (arith, c.loop-i.invariant, c.port_count-first.ensures, few-ports c.args.channels.now c.requires.table c.loop-i.i (omega arith))

pub loop-i-preserved : goal.loop-i-preserved
loop-i-preserved c =
    omega (arith, c.loop-i.invariant, c.port_count-first.ensures, first-suc c.args.channels.now c.loop-i.i (omega arith))
