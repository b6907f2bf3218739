-- Designs that run: their ports are nets, and their wrapped files are those of them.
use Rattle.net_design.specs.declared.design.Design.{Design}
use Rattle.net_design.specs.Lawful.{IsLawful}
use Rattle.shim_cosim.specs.run_model.Building.{PortsAreNets}
use Rattle.shim_cosim.proofs.run_model_lemmas.PlayedLaws.{ports-are_nets}

pub nets_of : (d : Design) → IsLawful d → PortsAreNets d
nets_of d l = ports-are_nets d l
