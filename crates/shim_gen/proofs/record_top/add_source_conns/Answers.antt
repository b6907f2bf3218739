use Rattle.std.proofs.Common.{map}
use Rattle.std.specs.Prelude.{codes}
use Rattle.vlog_tree.specs.Plain.{plain_conn}
use Rattle.shim_trees.specs.trace_model.declared.channel.Dir.TheVariants.{Inward, Outward}
use Rattle.shim_trees.specs.Pieces.{numbered, each, conn}
use Rattle.shim_trees.specs.RecordTop.{source_ready, source_content}
use Rattle.shim_gen.proofs.Pushed.{on_ok, four_before}
use Rattle.shim_gen.proofs.record_top.add_source_conns.Goals as goal

pub returns-in-Inward : goal.returns-in-Inward
returns-in-Inward c =
    let n = c.args.n in
    rw c.in-Inward.is (on_ok c.add_rows.result _ _
    (four_before (map plain_conn c.args.conns.now) (map plain_conn c.add_rows.new.conns) (conn (codes "clk") (codes "clk"))
    (conn (codes "g") (numbered (codes "g_") n)) (conn (codes "sv") (numbered (codes "v_") n)) (source_ready n Inward)
    (each (source_content n) 0 c.args.widths.now))
    c.add_rows.ensures)

pub returns-in-Outward : goal.returns-in-Outward
returns-in-Outward c =
    let n = c.args.n in
    rw c.in-Outward.is (on_ok c.add_rows-in-Outward.result _ _
    (four_before (map plain_conn c.args.conns.now) (map plain_conn c.add_rows-in-Outward.new.conns) (conn (codes "clk") (codes "clk"))
    (conn (codes "g") (numbered (codes "g_") n)) (conn (codes "sv") (numbered (codes "v_") n)) (source_ready n Outward)
    (each (source_content n) 0 c.args.widths.now))
    c.add_rows-in-Outward.ensures)
