use Rattle.std.proofs.Common.{length}
use Rattle.chan_monitor.specs.Entering.{offered}
use Rattle.chan_monitor.proofs.Held.{entered-pins, held-from, offered-small, plugs-within}
use Rattle.chan_monitor.proofs.cycles.settle_offers.Goals as goal

pub enter-requires-clause-plugs : goal.enter-requires-clause-plugs
enter-requires-clause-plugs g c = rw (c.as_slice-channels.ensures, c.as_slice.ensures)
    (plugs-within (g.B.Block.design c.args.block.now) c.args.map.now c.requires.mapped (length c.args.pins.now) c.requires.held.long)

pub settle-requires : goal.settle-requires
settle-requires g c =
    (entered-pins (g.B.Block.design c.args.block.now) c.args.map.now c.requires.mapped (offered c.args.gates c.args.offers.now)
    (offered-small c.args.map.now.channels c.args.offers.now c.args.gates c.requires.offers c.requires.gates) c.args.pins.now
    c.enter.new.pins c.requires.held (rw (c.as_slice-channels.ensures, c.as_slice.ensures) at c.enter.ensures)).fit

pub returns-clause-entered : goal.returns-clause-entered
returns-clause-entered g c =
    entered-pins (g.B.Block.design c.args.block.now) c.args.map.now c.requires.mapped (offered c.args.gates c.args.offers.now)
    (offered-small c.args.map.now.channels c.args.offers.now c.args.gates c.requires.offers c.requires.gates) c.args.pins.now
    c.enter.new.pins c.requires.held (rw (c.as_slice-channels.ensures, c.as_slice.ensures) at c.enter.ensures)

pub returns-clause-held : goal.returns-clause-held
returns-clause-held g c =
    held-from (g.B.Block.design c.args.block.now) c.args.map.now (offered c.args.gates c.args.offers.now) c.enter.new.pins
    (returns-clause-entered g c)
