-- A lawful design, part by part.
use Rattle.std.proofs.Common.{◌≢◌, ℕ, List}
use Rattle.std.specs.List.{AllPairs}
use Rattle.net_design.specs.declared.design.Design.{Design}
use Rattle.net_design.specs.Lawful.{IsLawful}
use Rattle.net_design.specs.Names.{net_names}
use Rattle.net_lawful.specs.Frame.{IsFramed}
use Rattle.net_lawful.specs.State.{HasState}
use Rattle.net_lawful.specs.Coded.{HasCode}
use Rattle.net_lawful.specs.Driven.{IsDriven}

module _ (d : Design) where
  pub lawful_frame : IsLawful d → IsFramed d
  lawful_frame law = record {
    small = law.small;
    top = law.top;
    parents = law.parents;
    nets = law.nets;
    memories = law.memories;
    rooms = law.rooms;
    ports = law.ports;
    port_nets = law.port_nets;
    clock = law.clock;
  }

  pub lawful_state : IsLawful d → HasState d
  lawful_state law = record { registers = law.registers; differ = law.registers_differ }

  pub lawful_code : IsLawful d → HasCode d
  lawful_code law = record { drivers = law.drivers; blocks = law.blocks }

  pub lawful_driven : IsLawful d → IsDriven d
  lawful_driven law = record { driven = law.driven; others = law.others }

  pub lawful_by_parts : AllPairs (λ (a b : List (List ℕ)). a ≢ b) (net_names d) → IsFramed d → HasState d → HasCode d → IsDriven d
      → IsLawful d
  lawful_by_parts names framed state code driven = record {
    small = framed.small;
    top = framed.top;
    parents = framed.parents;
    names = names;
    nets = framed.nets;
    memories = framed.memories;
    rooms = framed.rooms;
    ports = framed.ports;
    port_nets = framed.port_nets;
    clock = framed.clock;
    registers = state.registers;
    registers_differ = state.differ;
    drivers = code.drivers;
    blocks = code.blocks;
    driven = driven.driven;
    others = driven.others;
  }
