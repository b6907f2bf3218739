use Rattle.std.proofs.Common.{Err, ap, ◌∙◌}
use Rattle.vidi_recorder.specs.Course.{course}
use Rattle.vidi_bench.proofs.Chain.{if-ends, if-fails}
use Rattle.run_commands.proofs.Filed.{frame, fresh-over, ends-in-file, fails-in-file, later-as}
use Rattle.run_commands.proofs.recording.record_file.Goals as goal

pub returns-clause-ended : goal.returns-clause-ended
returns-clause-ended g c =
    let F = g.F.Shelf in
    let made = c.new-sink.result in
    let sink = c.record_run.new.sink in
    let files = F.files c.args.shelf.now in
    let before = F.read_faults c.args.shelf.now in
    let first = F.starts c.args.shelf.now in
    let to = c.args.trace.now in
    let was = ap F.files c.new-sink.ensures.shelf in
    let reads = ap F.read_faults c.new-sink.ensures.shelf in
    let over = c.record_run.ensures.frame (frame to files before first)
    (fresh-over made.started files (F.files made.shelf.now) made.name.now to (F.read_faults made.shelf.now) before
    (F.starts made.shelf.now) first c.new-sink.ensures.fresh was c.new-sink.ensures.name reads (ap F.starts c.new-sink.ensures.shelf)) in
    if-ends c.record_run.result c.record_run.ensures.ok (λ o ends d s row runs.
    ends-in-file (course d c.args.map.now (g.E.Env.offer (g.E.Env.plan c.args.env.now)) c.args.plan.now c.args.resets.now c.args.cycles)
    (g.S.Shell.runs c.record_run.new.shell) (g.E.Env.stands_for c.record_run.new.env) sink.started made.started files
    (F.files sink.shelf.now) (F.files made.shelf.now) _ to
    sink.name.now made.name.now (F.read_faults sink.shelf.now) before (F.starts sink.shelf.now) first _ o c.new-sink.ensures.fresh was
    c.new-sink.ensures.name (ap F.files (c.shelf-1.given.1 cc)) (ap F.starts (c.shelf-1.given.1 cc)) over (ends d s row runs))

pub returns-clause-failed : goal.returns-clause-failed
returns-clause-failed g c =
    let F = g.F.Shelf in
    let made = c.new-sink.result in
    let sink = c.record_run.new.sink in
    let files = F.files c.args.shelf.now in
    let before = F.read_faults c.args.shelf.now in
    let first = F.starts c.args.shelf.now in
    let to = c.args.trace.now in
    let was = ap F.files c.new-sink.ensures.shelf in
    let reads = ap F.read_faults c.new-sink.ensures.shelf in
    let over = c.record_run.ensures.frame (frame to files before first)
    (fresh-over made.started files (F.files made.shelf.now) made.name.now to (F.read_faults made.shelf.now) before
    (F.starts made.shelf.now) first c.new-sink.ensures.fresh was c.new-sink.ensures.name reads (ap F.starts c.new-sink.ensures.shelf)) in
    if-fails c.record_run.result c.record_run.ensures.err (λ e is fails d s row runs lawful.
    fails-in-file (course d c.args.map.now (g.E.Env.offer (g.E.Env.plan c.args.env.now)) c.args.plan.now c.args.resets.now c.args.cycles)
    (g.S.Shell.runs c.record_run.new.shell) (g.E.Env.stands_for c.record_run.new.env) sink.started made.started files
    (F.files sink.shelf.now) (F.files made.shelf.now) _ to
    sink.name.now made.name.now (F.read_faults sink.shelf.now) before (F.starts sink.shelf.now) first _ e c.new-sink.ensures.fresh was
    c.new-sink.ensures.name (ap F.files (c.shelf-1.given.1 cc)) (ap F.starts (c.shelf-1.given.1 cc)) over (fails d s row runs)
    (λ memory. (
      ap (λ k. F.files k.shelf.now) (c.record_run.ensures.memory (is ∙ ap Err memory)).2 ∙ was,
      ap (λ k. F.starts k.shelf.now) (c.record_run.ensures.memory (is ∙ ap Err memory)).2 ∙ ap F.starts c.new-sink.ensures.shelf,
    )) lawful)

pub returns-clause-counts : goal.returns-clause-counts
returns-clause-counts g c =
    let F = g.F.Shelf in
    let made = c.new-sink.result in
    let sink = c.record_run.new.sink in
    let files = F.files c.args.shelf.now in
    let before = F.read_faults c.args.shelf.now in
    let first = F.starts c.args.shelf.now in
    let to = c.args.trace.now in
    let was = ap F.files c.new-sink.ensures.shelf in
    let reads = ap F.read_faults c.new-sink.ensures.shelf in
    let over = c.record_run.ensures.frame (frame to files before first)
    (fresh-over made.started files (F.files made.shelf.now) made.name.now to (F.read_faults made.shelf.now) before
    (F.starts made.shelf.now) first c.new-sink.ensures.fresh was c.new-sink.ensures.name reads (ap F.starts c.new-sink.ensures.shelf)) in
    later-as before (F.read_faults sink.shelf.now) _ (F.write_faults c.args.shelf.now) (F.write_faults made.shelf.now)
    (F.write_faults sink.shelf.now) _ (ap F.read_faults (c.shelf-1.given.1 cc)) (ap F.write_faults (c.shelf-1.given.1 cc))
    (ap F.write_faults c.new-sink.ensures.shelf) over.counts c.record_run.ensures.later
