use Rattle.std.proofs.Common.{◌≡◌, ◌≤◌, ◌+◌, ◌*◌, ◌^◌, map, drop, length}
use Rattle.std.specs.List.{sum_by}
use Rattle.vlog_tree.specs.Plain.{plain_item}
use Rattle.vlog_hierarchy.specs.Outlines.{item_nets}
use Rattle.vlog_hierarchy.proofs.outline.net_count.Given as goal

abbrev pub invariant-loop-item : goal.invariant-loop-item
invariant-loop-item l = record {
  sum : l.nets + sum_by item_nets (map plain_item (drop l.item-index l.unit.items))
      ≡ length l.unit.ports + sum_by item_nets (map plain_item l.unit.items);
  few : l.nets ≤ (l.item-index + 1) * 2 ^ 64;
}
