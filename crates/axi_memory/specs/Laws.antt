-- What a memory offers is what an environment may offer.
use Rattle.std.specs.Prelude.{List}
use Rattle.env_script.specs.Offered.{AreLasting}
use Rattle.env_script.specs.trace_model.declared.channel.Channel.{Channel}
use Rattle.axi_memory.specs.declared.served.Ports.{Ports}
use Rattle.axi_memory.specs.Memory.{memory_offer}
use Rattle.axi_memory.specs.Stands.{AreServed, served}

-- each offer fits its channel, and a valid with its content stays until it is taken
abbrev pub MemoryIsLasting : Type 0
MemoryIsLasting = (channels : List Channel) (ports : Ports) → AreServed channels ports
    → AreLasting channels (memory_offer (served channels ports))
