use Rattle.std.proofs.Common.{◌≡◌, ◌++◌, drop, map}
use Rattle.trace_model.specs.Recording.{recorded}
use Rattle.axi_burst.specs.Transfers.{begun_beat}
use Rattle.axi_burst.proofs.transfers.begun_beats.Given as goal

abbrev pub invariant-loop-packet : goal.invariant-loop-packet
invariant-loop-packet l = l.beats ++ map (begun_beat l.id l.last) (recorded l.channels (drop l.packet-index l.packets) l.channel)
    ≡ map (begun_beat l.id l.last) (recorded l.channels l.packets l.channel)
