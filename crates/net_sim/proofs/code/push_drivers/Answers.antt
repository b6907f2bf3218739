use Rattle.std.proofs.Common.{◌-◌, get_or, arith}
use Rattle.std.proofs.lemmas.List.{get_or_default}
use Rattle.net_sim.proofs.Steps.{driver_step}
use Rattle.net_sim.proofs.code.push_drivers.Goals as goal

pub drivers-preserved : goal.drivers-preserved
drivers-preserved c =
    let l = c.drivers in
    let order = c.args.order.now in
    let some = c.drivers-test.true in
    let i = l.invariant.inside in
    let n = get_or order (l.i - 1) 0 in
    record {
      same =
          driver_step c.args.widths.now c.args.words c.args.drivers.now order l.i n c.index-drivers-order.result l.code c.push_acts.new.code
          c.args.code.now some i (get_or_default order (l.i - 1) 0 n (omega (arith, some, i)))
          (c.requires.order (l.i - 1) 0 (omega (arith, some, i))) c.index-drivers-order.is l.invariant.same c.in_ok-push_acts.ensures;
      inside = omega (arith, i);
    }
