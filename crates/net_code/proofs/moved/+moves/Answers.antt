use Rattle.std.proofs.Common.{◌^◌}
use Rattle.net_design.specs.declared.act.Act.{Act}
use Rattle.net_design.specs.declared.act.Guard.{Guard}
use Rattle.net_design.specs.Sized.{IsAct, IsRhs, IsBlock, IsShort, IsCountable}
use Rattle.net_code.specs.Moved.{moved_act, moved_guard}
use Rattle.net_code.proofs.Lists.{one_more, others}
use Rattle.net_code.proofs.moved.+moves.Goals as goal

pub move_acts-loop-act-preserved : goal.move_acts-loop-act-preserved
move_acts-loop-act-preserved t c =
    let l = c.loop-act in
    let all = c.as_mut_slice-act-items in
    let f = moved_act c.args.base.net c.args.base.word in
    record {
      same = one_more f c.args.acts.now l.act-items all.result.now l.act-index c.act-item.result c.move_act.new.act
          c.loop-act-test.true all.ensures.value l.invariant.same c.act-item.is c.move_act.ensures;
      near = others f c.args.acts.now l.act-items all.result.now l.act-index c.act-item.result c.move_act.new.act
          (λ (a : Act). IsAct (IsShort (2 ^ 32)) (IsCountable (2 ^ 32)) a) c.loop-act-test.true l.auto.act-items l.invariant.near;
    }

pub move_guards-loop-guard-preserved : goal.move_guards-loop-guard-preserved
move_guards-loop-guard-preserved t c =
    let l = c.loop-guard in
    let all = c.as_mut_slice-guard-items in
    let f = moved_guard c.args.base.net c.args.base.word in
    record {
      same = one_more f c.args.guards.now l.guard-items all.result.now l.guard-index c.guard-item.result c.move_guard.new.guard
          c.loop-guard-test.true all.ensures.value l.invariant.same c.guard-item.is c.move_guard.ensures;
      near = others f c.args.guards.now l.guard-items all.result.now l.guard-index c.guard-item.result c.move_guard.new.guard
          (λ (g : Guard). IsRhs (IsShort (2 ^ 32)) (IsCountable (2 ^ 32)) g.condition × IsBlock (IsShort (2 ^ 32))
          (IsCountable (2 ^ 32)) g.body)
          c.loop-guard-test.true l.auto.guard-items l.invariant.near;
    }
