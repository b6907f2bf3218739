use Rattle.std.proofs.Common.{◌≡◌, drop}
use Rattle.std.specs.List.{flat_map}
use Rattle.flat_parts.specs.vlog_driver.Duties.{Does}
use Rattle.flat_parts.specs.Drivers.{seat_duties, seat_blocks, IsBlockOf}
use Rattle.flat_drivers.specs.Latches.{instance_latches}
use Rattle.flat_drivers.specs.Seated.{instances_in, seats_in}
use Rattle.flat_drivers.proofs.Added.{Going}
use Rattle.flat_drivers.proofs.all.add_seats.Given as goal

abbrev pub invariant-loop-at : goal.invariant-loop-at
invariant-loop-at l = record {
  told : flat_map instance_latches (drop l.at (instances_in l.flat)) ≡ flat_map instance_latches (instances_in l.flat);
  drivers : Going Does (flat_map (seat_duties (seats_in l.flat)) (drop l.at (seats_in l.flat)))
      (flat_map (seat_duties (seats_in l.flat)) (seats_in l.flat)) l.out.drivers l.initial.out.drivers;
  blocks : Going IsBlockOf (flat_map seat_blocks (drop l.at (seats_in l.flat))) (flat_map seat_blocks (seats_in l.flat))
      l.out.blocks l.initial.out.blocks;
}
