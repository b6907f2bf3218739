use Rattle.shim_gen.proofs.record_top.add_sink_conns.Goals as goal

pub returns-in-Inward : goal.returns-in-Inward
returns-in-Inward c = rw c.in-Inward.is c.add_rows.ensures

pub returns-in-Outward : goal.returns-in-Outward
returns-in-Outward c = rw c.in-Outward.is c.add_rows-in-Outward.ensures
