use Rattle.run_commands.proofs.running.ended.Goals as goal

pub returns : goal.returns
returns c = rw c.in-Some.is (rw c.replace-channels.ensures.value at c.broken.ensures)
