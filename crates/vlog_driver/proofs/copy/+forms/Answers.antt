use Rattle.std.proofs.Common.{map, arith}
use Rattle.vlog_tree.specs.Plain.{plain_target}
use Rattle.vlog_driver.proofs.Forms.{form_next, form_none, form_done}
use Rattle.vlog_driver.proofs.copy.+forms.Goals as goal

pub part_forms-returns-in-None : goal.part_forms-returns-in-None
part_forms-returns-in-None t c =
    form_none c.args.parts.now c.loop-part.part-index c.part-item.result (map plain_target c.loop-part.targets) c.loop-part-test.true
    c.part-item.is (cc (c.in-None.is, c.in_ok-target_form.ensures)) c.loop-part.invariant

pub part_forms-loop-part-preserved : goal.part_forms-loop-part-preserved
part_forms-loop-part-preserved t c =
    form_next c.args.parts.now c.loop-part.part-index c.part-item.result c.loop-part.targets c.push.new.self c.in-Some.target
    c.loop-part-test.true c.part-item.is (cc (c.in-Some.is, c.in_ok-target_form.ensures)) c.in_ok-push-in-Some.ensures.ok
    c.loop-part.invariant

pub part_forms-returns : goal.part_forms-returns
part_forms-returns t c =
    form_done c.args.parts.now c.loop-part.part-index c.loop-part.targets (omega (arith, c.loop-part-test.false)) c.loop-part.invariant
