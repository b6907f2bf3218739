use Rattle.std.proofs.Common.{rules, arith, ◌≡◌, ◌-◌, Some, None, sym, ◌∙◌}
use Rattle.vlog_item.specs.vlog_expr.Marks.{all_marked}
use Rattle.vlog_parse.specs.UnitReader.{unit_at}
use Rattle.vlog_parse.proofs.Longest.{units_turn, units_stop}
use Rattle.vlog_parse.proofs.units.behind_units.Goals as goal

pub loop-left-preserved-in-Some : goal.loop-left-preserved-in-Some
loop-left-preserved-in-Some c =
    let found : unit_at c.args.fuel c.loop-left.inside (all_marked c.loop-left.rest.now)
    ≡ Some (c.in-Some.now_inside, all_marked c.in-Some.behind.now) = search rules in
    let turn = units_turn c.args.fuel c.loop-left.left (c.loop-left.left - 1) c.loop-left.inside (all_marked c.loop-left.rest.now)
    (c.in-Some.now_inside, all_marked c.in-Some.behind.now)
    (omega arith) found in
    (omega arith, sym turn ∙ c.loop-left.invariant.1)

pub loop-left-preserved : goal.loop-left-preserved
loop-left-preserved c =
    let none : unit_at c.args.fuel c.loop-left.inside (all_marked c.loop-left.rest.now) ≡ None = search rules in
    let stop = units_stop c.args.fuel c.loop-left.left (c.loop-left.left - 1) c.loop-left.inside (all_marked c.loop-left.rest.now)
    (omega arith) none in
    (omega arith, sym stop ∙ c.loop-left.invariant.1)
