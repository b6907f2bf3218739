use Rattle.std.proofs.Common.{[], sym, subst}
use Rattle.std.specs.List.{AllZip}
use Rattle.flat_parts.specs.vlog_elab.Plain.{plain_instances}
use Rattle.flat_parts.specs.vlog_driver.Duties.{Does}
use Rattle.flat_parts.specs.Drivers.{IsBlockOf}
use Rattle.flat_drivers.proofs.Seats.{duties_all, blocks_all}
use Rattle.flat_drivers.proofs.all.drivers_of.Goals as goal

pub returns-clause-drivers : goal.returns-clause-drivers
returns-clause-drivers c =
    subst (λ ds. AllZip Does ds c.add_seats.new.out.drivers) (duties_all (plain_instances c.args.list.now))
    (c.in_ok-add_seats.ensures.drivers [] (subst (λ ys. AllZip Does [] ys) (sym c.new.ensures) tt))

pub returns-clause-blocks : goal.returns-clause-blocks
returns-clause-blocks c =
    subst (λ bs. AllZip IsBlockOf bs c.add_seats.new.out.blocks) (blocks_all (plain_instances c.args.list.now))
    (c.in_ok-add_seats.ensures.blocks [] (subst (λ ys. AllZip IsBlockOf [] ys) (sym c.new-2.ensures) tt))
