use Rattle.std.proofs.Common.{◌≡◌, ◌++◌, ◌≤◌, drop, length}
use Rattle.net_sim.specs.Slots.{drivers_code}
use Rattle.net_sim.proofs.code.push_drivers.Given as goal

abbrev pub invariant-drivers : goal.invariant-drivers
invariant-drivers l = record {
  same : l.code ≡ l.initial.code ++ drivers_code l.widths l.words l.drivers (drop l.i l.order);
  inside : l.i ≤ length l.order;
}

abbrev pub decreases-drivers : goal.decreases-drivers
decreases-drivers l = l.i
