use Rattle.std.proofs.Common.{◌≡◌, ℕ, ◌<◌, length, take}
use Rattle.net_order.specs.Order.{writes_of}
use Rattle.net_order.specs.Index.{listed}
use Rattle.net_order.proofs.writers.writers_of.Given as goal

abbrev pub invariant-loop-i : goal.invariant-loop-i
invariant-loop-i l = record {
  long : length l.writers.items ≡ length l.design.nets;
  listed : (m j k : ℕ) → m < length l.design.nets → listed l.writers.items m j k ≡ writes_of (take l.i l.design.drivers) j m k;
}
