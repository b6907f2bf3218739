use Rattle.std.proofs.Common.{◌≡◌, ℕ, ◌<◌, Some, slice_get}
use Rattle.net_design.specs.declared.design.Port.{Port}
use Rattle.net_design.specs.declared.design.Net.{Net}
use Rattle.net_lawful.specs.Frame.{IsPortNet}
use Rattle.net_lawful.proofs.frame.have_port_nets.Given as goal

abbrev pub invariant-loop-k : goal.invariant-loop-k
invariant-loop-k l = (j : ℕ) (p : Port) (n : Net) → j < l.k → slice_get l.ports j ≡ Some p → slice_get l.nets j ≡ Some n → IsPortNet p n
