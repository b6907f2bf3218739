use Rattle.std.proofs.Common.{ap, sym, ◌∙◌, drop}
use Rattle.std.proofs.Math.ListN.{drop_of_length-le}
use Rattle.std.specs.List.{flat_map}
use Rattle.flat_parts.specs.vlog_elab.Plain.{plain_instance, plain_instances}
use Rattle.flat_parts.specs.Instances.{IsDeclaredIn}
use Rattle.flat_parts.specs.Marks.{instance_marks}
use Rattle.flat_registers.proofs.Steps.{plain_at, flat_step, done_by}
use Rattle.flat_registers.proofs.MarkLaws.{marks_of_seats}
use Rattle.flat_registers.proofs.marks.reg_marks.Goals as goal

pub add_instance-requires : goal.add_instance-requires
add_instance-requires c =
    plain_at (IsDeclaredIn c.args.modules.now) plain_instance c.args.list.now c.loop-instance.instance-index c.instance-item.result
    c.loop-instance-test.true c.instance-item.is c.requires

pub loop-instance-preserved : goal.loop-instance-preserved
loop-instance-preserved c =
    flat_step instance_marks plain_instance c.args.list.now c.loop-instance.instance-index c.instance-item.result c.loop-instance.out
    c.add_instance.new.out (flat_map instance_marks (plain_instances c.args.list.now)) c.loop-instance-test.true c.instance-item.is
    c.in_ok-add_instance.ensures c.loop-instance.invariant

pub returns : goal.returns
returns c =
    let is = c.args.list.now in
    let i = c.loop-instance.instance-index in
    done_by c.loop-instance.out (flat_map instance_marks (plain_instances (drop i is))) (flat_map instance_marks (plain_instances is))
    (ap (λ z. flat_map instance_marks (plain_instances z)) (drop_of_length-le is c.loop-instance-test.false)) c.loop-instance.invariant
    ∙ sym (marks_of_seats (plain_instances is))
