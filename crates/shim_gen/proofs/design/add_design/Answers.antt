use Rattle.std.proofs.Common.{map}
use Rattle.vlog_tree.specs.Plain.{plain_port}
use Rattle.shim_trees.specs.Links.{links}
use Rattle.shim_gen.proofs.Tables.{dut_by_table}
use Rattle.shim_gen.proofs.design.add_design.Goals as goal

pub returns : goal.returns
returns c =
    let same = dut_by_table (links c.args.valid.now c.args.ready.now c.args.pins.now) c.args.pins.now.top (map plain_port c.args.ports.now) in
    rw (c.in_ok-nets.ensures, c.as_slice.ensures, same) at c.add_dut.ensures
