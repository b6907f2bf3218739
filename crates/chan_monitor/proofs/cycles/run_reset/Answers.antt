use Rattle.std.proofs.Common.{true, length}
use Rattle.chan_monitor.proofs.Held.{held-pins, reset-within, ties-within}
use Rattle.chan_monitor.proofs.RowOfCycle.{first-some}
use Rattle.chan_monitor.proofs.cycles.run_reset.Goals as goal

pub hold-requires-clause-ties : goal.hold-requires-clause-ties
hold-requires-clause-ties g c =
    ties-within (g.B.Block.design c.args.block.now) c.args.map.now c.requires.mapped (length c.args.pins.now) c.requires.long

pub hold-requires-clause-reset : goal.hold-requires-clause-reset
hold-requires-clause-reset g c =
    reset-within (g.B.Block.design c.args.block.now) c.args.map.now c.requires.mapped (length c.args.pins.now) c.requires.long

pub run_cycles-requires : goal.run_cycles-requires
run_cycles-requires g c =
    (held-pins (g.B.Block.design c.args.block.now) c.args.map.now c.requires.mapped true (length c.args.pins.now) c.hold.new.pins
    c.requires.long c.hold.ensures).fit

pub returns-clause-first : goal.returns-clause-first
returns-clause-first g c =
    first-some (g.B.Block.design c.args.block.now) c.args.map.now c.in-Some.reset c.hold.new.pins (g.B.Block.state c.args.block.now)
    (g.B.Block.state c.run_cycles.new.block) c.in-Some.is
    (held-pins (g.B.Block.design c.args.block.now) c.args.map.now c.requires.mapped true (length c.args.pins.now) c.hold.new.pins
    c.requires.long c.hold.ensures)
    c.requires.loaded c.run_cycles.ensures.state
