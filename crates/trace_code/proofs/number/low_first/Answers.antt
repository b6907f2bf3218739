use Rattle.std.proofs.Common.{arith, ◌-◌, length}
use Rattle.trace_code.proofs.NumberLaws.{value_fits, low_value-down, grows-down}
use Rattle.trace_code.proofs.number.low_first.Goals as goal

pub overflow_mul-value : goal.overflow_mul-value
overflow_mul-value c =
    omega (arith, value_fits (length c.args.bytes.now - c.loop-i.i) c.loop-i.value 0 (omega arith) c.loop-i.invariant.small (omega arith))

pub overflow_add-value : goal.overflow_add-value
overflow_add-value c =
    omega (
      arith,
      value_fits (length c.args.bytes.now - c.loop-i.i) c.loop-i.value c.from.result (omega arith) c.loop-i.invariant.small
          (omega (arith, c.type_inv.bytes (c.loop-i.i - 1))),
    )

pub loop-i-preserved : goal.loop-i-preserved
loop-i-preserved c = record {
  value = low_value-down c.args.bytes.now c.loop-i.i c.loop-i.value c.from.result c.loop-i-test.true c.loop-i.auto.i c.from.ensures
      c.loop-i.invariant.value;
  small = grows-down (length c.args.bytes.now) c.loop-i.i c.loop-i.value c.from.result c.loop-i-test.true c.loop-i.auto.i
      c.loop-i.invariant.small (omega (arith, c.type_inv.bytes (c.loop-i.i - 1)));
}
