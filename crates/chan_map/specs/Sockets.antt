-- A table of ports by name.
use Rattle.std.specs.Prelude.{◌≡◌, ℕ, nat_eq, List}
use Rattle.std.specs.Cmp.Lexicographic.{pointwise}
use Rattle.indexmap.specs.IndexMap.{get_by}
use Rattle.chan_map.specs.declared.sockets.Top.{Top}
use Rattle.chan_map.specs.Ports.{socket_named}

-- the table gives each name its port of the design
abbrev pub IsTop : Top → Type 0
IsTop top = (name : List ℕ) → get_by (λ v. pointwise nat_eq name v.items) top.sockets ≡ socket_named top.design.now.ports name
