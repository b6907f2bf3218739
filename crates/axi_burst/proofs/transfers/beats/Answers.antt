use Rattle.axi_burst.proofs.TransferParts.{completed-beats}
use Rattle.axi_burst.proofs.transfers.beats.Goals as goal

pub returns : goal.returns
returns c =
    completed-beats c.args.id c.args.last c.args.t.now c.args.channel _ _ _ _ _ _ _ c.as_slice-channels.ensures c.as_slice-packets.ensures
    c.in_ok-begun.ensures c.as_slice.ensures c.in_ok-ends.ensures c.as_slice-2.ensures c.in_ok-found.ensures
