use Rattle.std.proofs.Common.{◌≡◌, map, drop}
use Rattle.std.specs.List.{flat_map, AllByRecursion}
use Rattle.vlog_tree.specs.Plain.{plain_item}
use Rattle.flat_parts.specs.vlog_hierarchy.Plain.{plain_path}
use Rattle.flat_parts.specs.vlog_driver.Placed.{placed}
use Rattle.flat_parts.specs.vlog_driver.Duties.{Does}
use Rattle.flat_parts.specs.Drivers.{IsBlockOf}
use Rattle.flat_drivers.specs.Latches.{placed_latches}
use Rattle.flat_drivers.specs.Seated.{seats_in}
use Rattle.flat_drivers.specs.Adding.{placed_in, blocks_in, IsFaultlessPlaced}
use Rattle.flat_drivers.proofs.Added.{Going, SetTo}
use Rattle.flat_drivers.proofs.seat.add_items.Given as goal

abbrev pub invariant-loop-item : goal.invariant-loop-item
invariant-loop-item l = record {
  scope : SetTo l.initial.scope l.scope;
  faultless : AllByRecursion (IsFaultlessPlaced l.base l.initial.scope)
      (placed l.initial.scope.params l.scope.declared (map plain_item (drop l.item-index l.items)));
  told : flat_map (placed_latches l.initial.scope)
      (placed l.initial.scope.params l.scope.declared (map plain_item (drop l.item-index l.items)))
      ≡ flat_map (placed_latches l.initial.scope)
      (placed l.initial.scope.params l.initial.scope.declared (map plain_item l.items));
  drivers : Going Does (flat_map (placed_in (seats_in l.flat) (plain_path l.path) l.base l.initial.scope)
      (placed l.initial.scope.params l.scope.declared (map plain_item (drop l.item-index l.items))))
      (flat_map (placed_in (seats_in l.flat) (plain_path l.path) l.base l.initial.scope)
      (placed l.initial.scope.params l.initial.scope.declared (map plain_item l.items))) l.out.drivers l.initial.out.drivers;
  blocks : Going IsBlockOf (flat_map (blocks_in l.base l.initial.scope)
      (placed l.initial.scope.params l.scope.declared (map plain_item (drop l.item-index l.items))))
      (flat_map (blocks_in l.base l.initial.scope)
      (placed l.initial.scope.params l.initial.scope.declared (map plain_item l.items))) l.out.blocks l.initial.out.blocks;
}
