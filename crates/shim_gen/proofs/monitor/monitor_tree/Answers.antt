use Rattle.shim_gen.proofs.monitor.monitor_tree.Goals as goal

pub returns : goal.returns
returns c =
    rw (
      c.in_ok-name.ensures,
      c.in_ok-add_ports.ensures,
      c.new-ports.ensures,
      c.in_ok-add_items.ensures,
      c.new-items.ensures,
      c.new.ensures,
      c.as_slice-widths.ensures,
    )
