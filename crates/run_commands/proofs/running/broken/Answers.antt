use Rattle.run_commands.proofs.running.broken.Goals as goal

pub returns : goal.returns
returns c = rw (c.in_ok-last.ensures.items, c.as_slice.ensures, c.unstable_line-line.ensures) at c.with_lines.ensures
