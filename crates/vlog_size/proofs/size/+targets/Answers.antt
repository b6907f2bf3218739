use Rattle.std.proofs.Common.{◌<◌, ◌^◌, length, arith}
use Rattle.vlog_tree.specs.Plain.{plain_targets}
use Rattle.vlog_size.specs.Names.{readable_in}
use Rattle.vlog_size.specs.Size.{sizes_of_targets}
use Rattle.vlog_size.proofs.Rests.{targets_few, next_target, no_target}
use Rattle.vlog_size.proofs.size.+targets.Goals as goal

pub targets_facts-loop-part-preserved : goal.targets_facts-loop-part-preserved
targets_facts-loop-part-preserved t c =
    c.with_part-so_far.ensures _ _ _
    (next_target c.loop-part.so_far
    (readable_in c.args.view.now) c.args.parts.now c.loop-part.part-index c.part-item.result _ c.loop-part-test.true c.part-item.is
    c.loop-part.invariant)
    c.target_facts-facts.ensures

pub targets_facts-returns : goal.targets_facts-returns
targets_facts-returns t c =
    let few : length c.args.parts.now < 2 ^ 64 = omega arith in
    c.concat_facts.ensures (sizes_of_targets (readable_in c.args.view.now) (plain_targets c.args.parts.now))
    (targets_few (readable_in c.args.view.now) c.args.parts.now few)
    (no_target c.loop-part.so_far
    (readable_in c.args.view.now) c.args.parts.now c.loop-part.part-index _ c.loop-part-test.false c.loop-part.invariant)
