use Rattle.std.proofs.Common.{◌≡◌, ℕ, ◌<◌, Some, slice_get, take}
use Rattle.std.specs.List.{sum_by}
use Rattle.net_design.specs.declared.design.DesignMemory.{DesignMemory}
use Rattle.net_lawful.proofs.frame.have_rooms.Given as goal

abbrev pub invariant-loop-i : goal.invariant-loop-i
invariant-loop-i l = record {
  total : l.total ≡ sum_by (λ (x : DesignMemory). x.room.length) (take l.i l.memories);
  each : (j : ℕ) (a : DesignMemory) → j < l.i → slice_get l.memories j ≡ Some a
      → a.room.first ≡ sum_by (λ (x : DesignMemory). x.room.length) (take j l.memories);
}
