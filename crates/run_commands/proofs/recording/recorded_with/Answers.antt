use Rattle.vidi_bench.specs.AnswerText.{text_of}
use Rattle.vidi_recorder.specs.vidi_io.Shelf.{HasStarted}
use Rattle.run_commands.specs.Records.{course_of}
use Rattle.run_commands.proofs.Recorded.{told-recorded}
use Rattle.run_commands.proofs.recording.recorded_with.Goals as goal

pub returns-in-Ok-clause-done : goal.returns-in-Ok-clause-done
returns-in-Ok-clause-done g c =
    told-recorded (course_of c.args.planned.bench c.args.planned.plan) (g.S.Shelf.files c.args.shelf.now)
    (g.S.Shelf.files c.record_sim.new.shelf) c.args.trace.now
    (HasStarted (g.S.Shelf.starts c.args.shelf.now) (g.S.Shelf.starts c.record_sim.new.shelf)) c.in-Ok.outcome c.cycles.result c.told.result.status
    (text_of c.told.result.text) c.cycles.ensures c.in-Ok.ensures.ended c.told.ensures

pub returns-in-Err-WriteFault-clause-stopped : goal.returns-in-Err-WriteFault-clause-stopped
returns-in-Err-WriteFault-clause-stopped g c = (
  rw c.in-Err-WriteFault.field-0-is at c.in-Err-WriteFault.ensures.cause,
  rw c.in-Err-WriteFault.field-0-is at c.in-Err-WriteFault.ensures.failed,
)

pub returns-clause-stopped : goal.returns-clause-stopped
returns-clause-stopped g c = rw c.in-Err-Memory.field-0-is at c.in-Err-Memory.ensures.failed
