use Rattle.std.proofs.Common.{ap, sym, ◌∙◌, drop}
use Rattle.std.proofs.Math.ListN.{drop_of_length-le}
use Rattle.flat_parts.specs.vlog_elab.Plain.{plain_instance, plain_instances}
use Rattle.flat_parts.specs.Instances.{IsDeclaredIn}
use Rattle.flat_registers.specs.Places.{plain_places, regs_of}
use Rattle.flat_registers.proofs.Steps.{plain_at, done_by}
use Rattle.flat_registers.proofs.PlaceLaws.{regs_of_seats}
use Rattle.flat_registers.proofs.places.reg_nets.Goals as goal

pub add_instance-requires : goal.add_instance-requires
add_instance-requires c =
    plain_at (IsDeclaredIn c.args.modules.now) plain_instance c.args.list.now c.loop-instance.instance-index c.instance-item.result
    c.loop-instance-test.true c.instance-item.is c.requires

pub returns : goal.returns
returns c =
    let is = c.args.list.now in
    let i = c.loop-instance.instance-index in
    let first = c.loop-instance.first in
    done_by (plain_places c.loop-instance.out) (regs_of first (plain_instances (drop i is))) (regs_of 0 (plain_instances is))
    (ap (λ z. regs_of first (plain_instances z)) (drop_of_length-le is c.loop-instance-test.false)) c.loop-instance.invariant
    ∙ sym (regs_of_seats (plain_instances is))
