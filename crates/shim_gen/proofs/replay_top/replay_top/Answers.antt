use Rattle.shim_gen.proofs.replay_top.replay_top.Goals as goal

pub returns : goal.returns
returns c =
    rw (
      c.in_ok-name.ensures,
      c.in_ok-add_top_ports.ensures,
      c.new-ports.ensures,
      c.in_ok-add_top_items.ensures,
      c.new-items.ensures,
      c.new.ensures,
    )
