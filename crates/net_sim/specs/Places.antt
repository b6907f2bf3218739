-- The places of the ports of one direction.
use Rattle.std.specs.Prelude.{ℕ, ◌+◌, List, [], ◌∷◌, if◌then◌else◌}
use Rattle.net_design.specs.declared.design.Port.{Port}
use Rattle.net_design.specs.declared.design.Direction.{Direction}
use Rattle.net_design.specs.Settled.{same_direction}

-- in port order, where the first port has place k
abbrev pub port_places : Direction → ℕ → List Port → List ℕ
port_places direction k [] = []
port_places direction k (p ∷ ports) =
    if same_direction direction p.direction then k ∷ port_places direction (k + 1) ports else port_places direction (k + 1) ports
