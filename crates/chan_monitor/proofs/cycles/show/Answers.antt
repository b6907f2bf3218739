use Rattle.std.proofs.Common.{refl, ◌∙◌}
use Rattle.net_design.specs.Pins.{outputs}
use Rattle.chan_monitor.proofs.Held.{plugs-shown}
use Rattle.chan_monitor.proofs.RowOfCycle.{refill-is, row-is}
use Rattle.chan_monitor.proofs.cycles.show.Goals as goal

pub valids-valids-requires-clause-plugs : goal.valids-valids-requires-clause-plugs
valids-valids-requires-clause-plugs g c = rw (c.as_slice-channels.ensures, c.as_slice-plugs.ensures)
    (plugs-shown (g.B.Block.design c.args.block.now) c.args.map.now c.requires.mapped)

pub readies-readies-requires-clause-plugs : goal.readies-readies-requires-clause-plugs
readies-readies-requires-clause-plugs g c = rw (c.as_slice-channels.ensures, c.as_slice-plugs.ensures)
    (plugs-shown (g.B.Block.design c.args.block.now) c.args.map.now c.requires.mapped)

pub fill-requires-clause-plugs : goal.fill-requires-clause-plugs
fill-requires-clause-plugs g c = rw (c.as_slice-channels.ensures, c.as_slice-plugs.ensures)
    (plugs-shown (g.B.Block.design c.args.block.now) c.args.map.now c.requires.mapped)

pub returns-clause-row : goal.returns-clause-row
returns-clause-row g c before are =
    let v = rw (c.as_slice-channels.ensures, c.as_slice-plugs.ensures) at c.valids-valids.ensures in
    let r = rw (c.as_slice-channels.ensures, c.as_slice-plugs.ensures) at c.readies-readies.ensures in
    let k = rw (c.as_slice-channels.ensures, c.as_slice-plugs.ensures) at c.fill.ensures in
    let long = c.fill.auto.contents in
    let filled = refill-is c.args.row.now.contents c.fill.new.contents (rw c.as_mut_slice.ensures.value at long) in
    row-is c.args.map.now c.args.row.now.fresh before c.args.offers.now c.args.gates
    (outputs (g.B.Block.design c.args.block.now) (g.B.Block.shown c.args.block.now)) c.args.monitors.now _ are refl refl v r (filled ∙ k)
    c.marks_of-marks.ensures.starts c.marks_of-marks.ensures.ends
