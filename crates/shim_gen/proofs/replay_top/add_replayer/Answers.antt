use Rattle.shim_gen.proofs.replay_top.add_replayer.Goals as goal

pub returns : goal.returns
returns c =
    rw (
      c.in_ok-kind.ensures,
      c.in_ok-name.ensures,
      c.in_ok-add_replayer_conns.ensures,
      c.new-conns.ensures,
      c.as_slice.ensures,
    ) at c.add_instance.ensures
