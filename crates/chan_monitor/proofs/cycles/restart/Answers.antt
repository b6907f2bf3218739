use Rattle.std.proofs.Common.{false, length, ◌∙◌}
use Rattle.run_model.specs.Pins.{silent}
use Rattle.chan_monitor.proofs.Held.{held-from, held-pins, reset-within, ties-within}
use Rattle.chan_monitor.proofs.cycles.restart.Goals as goal

pub hold-requires-clause-ties : goal.hold-requires-clause-ties
hold-requires-clause-ties g c =
    ties-within (g.B.Block.design c.args.block.now) c.args.map.now c.requires.mapped (length c.run_reset.new.pins)
    (c.run_reset.auto.pins ∙ c.requires.long)

pub hold-requires-clause-reset : goal.hold-requires-clause-reset
hold-requires-clause-reset g c =
    reset-within (g.B.Block.design c.args.block.now) c.args.map.now c.requires.mapped (length c.run_reset.new.pins)
    (c.run_reset.auto.pins ∙ c.requires.long)

pub returns-clause-held : goal.returns-clause-held
returns-clause-held g c =
    held-from (g.B.Block.design c.args.block.now) c.args.map.now silent c.hold.new.pins
    (held-pins (g.B.Block.design c.args.block.now) c.args.map.now c.requires.mapped false (length c.run_reset.new.pins) c.hold.new.pins
    (c.run_reset.auto.pins ∙ c.requires.long) c.hold.ensures)
