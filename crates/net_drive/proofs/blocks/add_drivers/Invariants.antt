use Rattle.std.proofs.Common.{◌≡◌, ◌++◌, drop}
use Rattle.std.specs.List.{flat_map}
use Rattle.net_code.specs.Targets.{nets_named, rooms_named}
use Rattle.net_drive.specs.Drive.{always_names}
use Rattle.net_drive.proofs.blocks.add_drivers.Given as goal

abbrev pub invariant-loop-driver : goal.invariant-loop-driver
invariant-loop-driver l = record {
  nets : l.named.nets ++ flat_map (always_names nets_named) (drop l.driver-index l.drivers)
      ≡ l.initial.named.nets ++ flat_map (always_names nets_named) l.drivers;
  rooms : l.named.rooms ++ flat_map (always_names rooms_named) (drop l.driver-index l.drivers)
      ≡ l.initial.named.rooms ++ flat_map (always_names rooms_named) l.drivers;
}
