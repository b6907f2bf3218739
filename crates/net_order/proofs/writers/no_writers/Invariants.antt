use Rattle.std.proofs.Common.{◌≡◌, ℕ, [], length}
use Rattle.net_design.specs.Names.{list_at}
use Rattle.net_order.proofs.writers.no_writers.Given as goal

abbrev pub invariant-nets : goal.invariant-nets
invariant-nets l = record { long : length l.writers.items ≡ l._net; none : (m : ℕ) → list_at l.writers.items m ≡ [] }
