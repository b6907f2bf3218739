use Rattle.std.proofs.Common.{◌++◌, map, ap, sym}
use Rattle.vlog_tree.specs.Plain.{plain_item}
use Rattle.shim_trees.specs.Pieces.{each}
use Rattle.shim_trees.specs.RecordTop.{monitor_item}
use Rattle.shim_gen.proofs.Each.{each_pushed}
use Rattle.shim_gen.proofs.record_top.add_monitors.Goals as goal

pub loop-n-preserved : goal.loop-n-preserved
loop-n-preserved c =
    let channel = c.index-channels-n.result in
    each_pushed monitor_item (map plain_item c.loop-n.items) (map plain_item c.add_monitor.new.items)
    (map plain_item c.args.items.now ++ each monitor_item 0 c.args.channels.now) c.args.channels.now c.loop-n.n channel
    (monitor_item c.loop-n.n channel) c.loop-n-test.true (ap (monitor_item c.loop-n.n) (sym c.index-channels-n.is))
    c.in_ok-add_monitor.ensures c.loop-n.invariant
