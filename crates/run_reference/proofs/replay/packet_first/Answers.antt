use Rattle.std.proofs.Common.{arith}
use Rattle.run_reference.proofs.PortLemmas.{ports-small, under-suc}
use Rattle.run_reference.proofs.replay.packet_first.Goals as goal

pub overflow_add-first : goal.overflow_add-first
overflow_add-first c =
    omega (
      arith,
      c.ports_if-first.ensures,
      c.requires.table.few,
      ports-small c.args.channels.now c.requires.table c.args.starts c.loop-i.i (omega arith),
    )

pub loop-i-preserved : goal.loop-i-preserved
loop-i-preserved c = record {
  sum = omega (
    arith,
    c.loop-i.invariant.sum,
    c.ports_if-first.ensures,
    under-suc c.args.starts c.args.channels.now c.loop-i.i
        (omega arith),
  );
  few = omega (
    arith,
    c.loop-i.invariant.few,
    c.ports_if-first.ensures,
    ports-small c.args.channels.now c.requires.table c.args.starts c.loop-i.i (omega arith),
  );
}
