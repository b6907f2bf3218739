use Rattle.std.proofs.Common.{ℕ, List, inl}
use Rattle.vidi_recorder.specs.vidi_io.Cause.{Rose}
use Rattle.vidi_recorder.specs.vidi_io.Shelf.{HasStarted}
use Rattle.vidi_recorder.specs.vidi_io.Writing.{IsKept}
use Rattle.vidi_recorder.proofs.vidi_io_lemmas.Cut.{started-since}
use Rattle.run_commands.specs.Records.{IsUnrecorded, Records, StopsRecording}
use Rattle.vidi_bench.proofs.Chain.{passed-owed, rose-since}
use Rattle.run_commands.proofs.Recorded.{recorded-owed}
use Rattle.run_commands.proofs.recording.record.Goals as goal

pub returns-in_err-planned-clause-owed : goal.returns-in_err-planned-clause-owed
returns-in_err-planned-clause-owed g c =
    let S = g.S.Shelf in
    let files = S.files c.args.shelf.now in
    let F = λ (name : List ℕ). Rose (S.read_faults c.args.shelf.now name) (S.read_faults c.plan_recording.new.shelf name) in
    let design = c.args.design.now in
    let map = c.args.map.now in
    let script = c.args.script.now in
    let stalls = c.args.stalls.now in
    let trace = c.args.trace.now in
    let P = HasStarted (S.starts c.args.shelf.now) (S.starts c.plan_recording.new.shelf) in
    let kept : IsKept files P (S.files c.plan_recording.new.shelf) = (c.plan_recording.ensures.files, c.plan_recording.ensures.starts) in
    passed-owed (IsUnrecorded design map script stalls files F) (Records design map script stalls trace files F P)
    (StopsRecording design map script stalls trace files P)
    (Rose (S.write_faults c.args.shelf.now) (S.write_faults c.plan_recording.new.shelf)) (IsKept files P)
    (S.files c.plan_recording.new.shelf) c.in_err-planned.field-0.0 c.from_residual.result c.from_residual.ensures.1 kept
    (λ a x is. inl (is, kept)) c.in_err-planned.ensures.refused

pub returns-clause-owed : goal.returns-clause-owed
returns-clause-owed g c =
    let S = g.S.Shelf in
    let files = S.files c.args.shelf.now in
    let F = λ (name : List ℕ). Rose (S.read_faults c.args.shelf.now name) (S.read_faults c.recorded.new.shelf name) in
    let old = S.write_faults c.args.shelf.now in
    let middle = S.write_faults c.plan_recording.new.shelf in
    let now = S.write_faults c.recorded.new.shelf in
    let planned = c.in_ok-planned.planned in
    recorded-owed c.args.design.now c.args.map.now c.args.script.now c.args.stalls.now c.args.trace.now files
    (S.files c.plan_recording.new.shelf) (S.files c.recorded.new.shelf) F planned.bench planned.plan (Rose middle now) (Rose old now)
    (HasStarted (S.starts c.plan_recording.new.shelf) (S.starts c.recorded.new.shelf))
    (HasStarted (S.starts c.args.shelf.now) (S.starts c.recorded.new.shelf))
    c.recorded.result c.plan_recording.ensures.files c.in_ok-planned.ensures.planned
    (λ rose. rose-since old middle now c.plan_recording.ensures.counts.writes rose)
    (λ once. started-since (S.starts c.args.shelf.now) (S.starts c.plan_recording.new.shelf) (S.starts c.recorded.new.shelf) once
    c.plan_recording.ensures.starts)
    c.recorded.ensures.done c.recorded.ensures.stopped
