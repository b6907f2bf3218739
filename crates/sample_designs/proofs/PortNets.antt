-- In a lawful design port k is net k.
use Rattle.net_design.specs.declared.design.Design.{Design}
use Rattle.net_design.specs.Lawful.{IsLawful}
use Rattle.run_model.specs.Building.{PortsAreNets}
use Rattle.run_model.proofs.PlayedLaws.{ports-are_nets}

pub port_nets : (d : Design) → IsLawful d → PortsAreNets d
port_nets = ports-are_nets
