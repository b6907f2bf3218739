use Rattle.std.proofs.Common.{◌≡◌, ◌++◌, drop, map}
use Rattle.net_design.specs.declared.design.Net.{Net}
use Rattle.net_sim.proofs.code.widths_of.Given as goal

abbrev pub invariant-loop-net : goal.invariant-loop-net
invariant-loop-net l = l.widths ++ map (λ (n : Net). n.width) (drop l.net-index l.nets) ≡ map (λ (n : Net). n.width) l.nets
