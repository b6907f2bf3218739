use Rattle.axi_burst.proofs.Fitting.{shown_fit}
use Rattle.axi_burst.proofs.TransferParts.{completed-addresses}
use Rattle.axi_burst.proofs.transfers.addresses.Goals as goal

pub begun_addresses-requires-clause-fits : goal.begun_addresses-requires-clause-fits
begun_addresses-requires-clause-fits c =
    shown_fit c.args.t.now.channels c.as_slice-channels.result.now c.args.t.now.packets c.as_slice-packets.result.now c.args.ports.now
    c.as_slice-channels.ensures c.as_slice-packets.ensures c.requires.ports c.requires.packets

pub returns : goal.returns
returns c =
    completed-addresses c.args.beat c.args.ports.now c.args.t.now _ _ _ _ _ _ _ c.as_slice-channels.ensures c.as_slice-packets.ensures
    c.in_ok-begun.ensures c.as_slice.ensures c.in_ok-ends.ensures c.as_slice-2.ensures c.in_ok-asks.ensures
