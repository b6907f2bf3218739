use Rattle.replay_command.specs.vidi_io.Entries.{files_of}
use Rattle.replay_command.specs.vidi_io.MemShelf.{entries}
use Rattle.run_commands.specs.Records.{course_of}
use Rattle.sample_command.proofs.Sampled.{whole-traced}
use Rattle.sample_command.proofs.sampling.recorded.Goals as goal

pub returns-in-Ok-Whole-clause-traced : goal.returns-in-Ok-Whole-clause-traced
returns-in-Ok-Whole-clause-traced c =
    whole-traced (course_of c.args.planned.bench c.args.planned.plan) (files_of (entries c.new-shelf.result)) c.record_sim.new.shelf _
    c.in-Ok-Whole.field-0-0 (rw c.in-Ok-Whole.field-0-is at c.in-Ok-Whole.ensures.ended)
