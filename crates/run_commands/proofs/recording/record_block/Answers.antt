use Rattle.std.proofs.Common.{ℕ, List, None}
use Rattle.bench_run.specs.env_script.declared.script.Script.{Script}
use Rattle.bench_run.specs.env_script.ScriptOffer.{script_offer}
use Rattle.vidi_recorder.specs.vidi_io.Shelf.{HasStarted}
use Rattle.vidi_recorder.specs.Course.{course}
use Rattle.run_commands.specs.Recorded.{FileEnds, FileFails}
use Rattle.vidi_bench.proofs.Chain.{if-ends, if-fails}
use Rattle.run_commands.proofs.Recorded.{at-these}
use Rattle.run_commands.proofs.recording.record_block.Goals as goal

pub returns-clause-ended : goal.returns-clause-ended
returns-clause-ended g c =
    let d = g.B.Block.design c.args.block in
    if-ends c.record_file.result c.record_file.ensures.ended (λ o ends.
    at-these
    (λ (s : Script) (times : List ℕ) (n : ℕ). FileEnds (course d c.args.map.now (script_offer s) c.args.plan.now times n)
    (g.S.Shelf.files c.args.shelf.now) c.args.trace.now (HasStarted (g.S.Shelf.starts c.args.shelf.now) (g.S.Shelf.starts c.record_file.new.shelf))
    (g.S.Shelf.files c.record_file.new.shelf) o)
    c.in_ok-env.env.script.now c.args.script.now c.resets.result.now c.args.script.now.resets c.cycles.result c.args.script.now.cycles
    c.in_ok-env.ensures.plan c.resets.ensures c.cycles.ensures
    (ends d _ None c.in_ok-shell.ensures.runs))

pub returns-clause-failed : goal.returns-clause-failed
returns-clause-failed g c =
    let d = g.B.Block.design c.args.block in
    if-fails c.record_file.result c.record_file.ensures.failed (λ e is fails.
    at-these
    (λ (s : Script) (times : List ℕ) (n : ℕ). FileFails (course d c.args.map.now (script_offer s) c.args.plan.now times n)
    (g.S.Shelf.files c.args.shelf.now) c.args.trace.now (HasStarted (g.S.Shelf.starts c.args.shelf.now) (g.S.Shelf.starts c.record_file.new.shelf))
    (g.S.Shelf.files c.record_file.new.shelf) e)
    c.in_ok-env.env.script.now c.args.script.now c.resets.result.now c.args.script.now.resets c.cycles.result c.args.script.now.cycles
    c.in_ok-env.ensures.plan c.resets.ensures c.cycles.ensures
    (fails d _ None c.in_ok-shell.ensures.runs c.requires.lawful))
