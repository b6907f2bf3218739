-- In a lawful design port k is net k.
use Rattle.net_design.specs.declared.design.Design.{Design}
use Rattle.net_design.specs.Lawful.{IsLawful}
use Rattle.bench_run.specs.run_model.Building.{PortsAreNets}
use Rattle.bench_run.proofs.run_model_lemmas.PlayedLaws.{ports-are_nets}

pub port_nets : (d : Design) → IsLawful d → PortsAreNets d
port_nets = ports-are_nets
