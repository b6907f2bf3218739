use Rattle.shim_gen.proofs.record_top.add_monitor.Goals as goal

pub returns : goal.returns
returns c =
    rw (
      c.in_ok-kind.ensures,
      c.in_ok-name.ensures,
      c.in_ok-add_sink_conns.ensures,
      c.in_ok-add_source_conns.ensures,
      c.new-conns.ensures,
      c.as_slice-widths.ensures,
    ) at c.add_instance.ensures
