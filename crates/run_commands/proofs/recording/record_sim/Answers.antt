use Rattle.std.proofs.Common.{subst}
use Rattle.net_design.specs.declared.design.Design.{Design}
use Rattle.bench_run.specs.env_script.ScriptOffer.{script_offer}
use Rattle.vidi_recorder.specs.vidi_io.Shelf.{HasStarted}
use Rattle.vidi_recorder.specs.Course.{course}
use Rattle.run_commands.specs.Recorded.{FileEnds, FileFails}
use Rattle.vidi_bench.proofs.Chain.{if-ends, if-fails}
use Rattle.run_commands.proofs.recording.record_sim.Goals as goal

pub returns-clause-ended : goal.returns-clause-ended
returns-clause-ended g c =
    let script = c.args.script.now in
    if-ends c.record_block.result c.record_block.ensures.ended (λ o ends.
    subst (λ (d : Design). FileEnds (course d c.args.map.now (script_offer script) c.args.plan.now script.resets script.cycles)
    (g.S.Shelf.files c.args.shelf.now) c.args.trace.now (HasStarted (g.S.Shelf.starts c.args.shelf.now) (g.S.Shelf.starts c.record_block.new.shelf))
    (g.S.Shelf.files c.record_block.new.shelf) o) c.in_ok-sim.ensures.design ends)

pub returns-clause-failed : goal.returns-clause-failed
returns-clause-failed g c =
    let script = c.args.script.now in
    if-fails c.record_block.result c.record_block.ensures.failed (λ e is fails.
    subst (λ (d : Design). FileFails (course d c.args.map.now (script_offer script) c.args.plan.now script.resets script.cycles)
    (g.S.Shelf.files c.args.shelf.now) c.args.trace.now (HasStarted (g.S.Shelf.starts c.args.shelf.now) (g.S.Shelf.starts c.record_block.new.shelf))
    (g.S.Shelf.files c.record_block.new.shelf) e) c.in_ok-sim.ensures.design fails)
