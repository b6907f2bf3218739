use Rattle.std.proofs.Common.{map}
use Rattle.vlog_tree.specs.Plain.{plain_conn}
use Rattle.shim_gen.proofs.Joined.{each_row}
use Rattle.shim_gen.proofs.Pushed.{on_ok}
use Rattle.shim_gen.proofs.conns.add_row.Goals as goal

pub returns-in-Each : goal.returns-in-Each
returns-in-Each c =
    rw c.in-Each.is (on_ok c.add_upto.result _ _
    (each_row c.in-Each.port c.in-Each.label c.in-Each.widths (map plain_conn c.args.conns.now) (map plain_conn c.add_upto.new.conns))
    c.add_upto.ensures)
