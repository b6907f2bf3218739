use Rattle.std.proofs.Common.{◌≡◌, ◌++◌, drop, map}
use Rattle.trace_model.specs.Recording.{recorded}
use Rattle.axi_burst.specs.Transfers.{begun_address}
use Rattle.axi_burst.proofs.transfers.begun_addresses.Given as goal

abbrev pub invariant-loop-packet : goal.invariant-loop-packet
invariant-loop-packet l = l.asks ++ map (begun_address l.beat l.ports) (recorded l.channels (drop l.packet-index l.packets) l.ports.channel)
    ≡ map (begun_address l.beat l.ports) (recorded l.channels l.packets l.ports.channel)
