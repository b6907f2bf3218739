use Rattle.std.proofs.Common.{◌≡◌, ◌≤◌, ℕ, List, take, drop, nat_eq}
use Rattle.std.specs.Prelude.{count_by}
use Rattle.std.specs.Cmp.Lexicographic.{pointwise}
use Rattle.vidi_lines.specs.vidi_bits.Findings.{or_first}
use Rattle.indexmap.specs.IndexMap.{get_by}
use Rattle.net_design.specs.declared.design.Port.{Port}
use Rattle.net_design.specs.declared.design.Direction.TheVariants.{Input, Output}
use Rattle.net_design.specs.Settled.{same_direction}
use Rattle.chan_map.specs.Ports.{socket_from, socket_named}
use Rattle.chan_map.proofs.sockets.sockets_of.Given as goal

abbrev pub invariant-loop-port : goal.invariant-loop-port
invariant-loop-port l = record {
  inputs : l.inputs ≡ count_by (λ (q : Port). same_direction Input q.direction) (take l.port l.ports);
  outputs : l.outputs ≡ count_by (λ (q : Port). same_direction Output q.direction) (take l.port l.ports);
  few : (l.inputs ≤ l.port) × (l.outputs ≤ l.port);
  found : (q : List ℕ) → or_first (get_by (λ v. pointwise nat_eq q v.items) l.sockets)
      (socket_from (take l.port l.ports) (drop l.port l.ports) q) ≡ socket_named l.ports q;
}
