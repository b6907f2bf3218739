use Rattle.std.proofs.Common.{◌≡◌, ℕ, ◌<◌, ◌==◌, ◌&&◌, ◌||◌, length, drop}
use Rattle.net_design.specs.Bits.{named}
use Rattle.net_order.specs.Index.{listed}
use Rattle.net_order.proofs.writers.note_masks.Given as goal

abbrev pub invariant-loop-mask : goal.invariant-loop-mask
invariant-loop-mask l = record {
  long : length l.writers.items ≡ length l.initial.writers.items;
  listed : (m j k : ℕ) → m < length l.initial.writers.items
      → (listed l.writers.items m j k || ((l.driver == j) && named (drop l.mask-index l.masks) m k))
      ≡ (listed l.initial.writers.items m j k || ((l.driver == j) && named l.masks m k));
}
