use Rattle.std.proofs.Common.{ℕ, List, inl, inr}
use Rattle.vidi_answer.specs.vidi_io.Cause.{Rose}
use Rattle.vidi_answer.specs.vidi_io.Shelf.{HasStarted}
use Rattle.vidi_answer.specs.vidi_io.Writing.{IsKept}
use Rattle.vidi_answer.proofs.vidi_io_lemmas.Cut.{started-since}
use Rattle.vidi_answer.specs.report_text.declared.reason.Word.TheVariants as words
use Rattle.vidi_answer.specs.Reading.{IsUnread}
use Rattle.trace_commands.specs.Said.{salvaged_line}
use Rattle.trace_commands.specs.Traces.{trace_limit, IsHeaderless, IsUnsaved, IsWhole, IsWholeIn, Saves, StopsSaving}
use Rattle.trace_commands.specs.Written.{Holds}
use Rattle.vidi_answer.proofs.Chain.{passed-owed, rose-since}
use Rattle.trace_commands.proofs.WrittenTraces.{holds-as, written-owed}
use Rattle.trace_commands.proofs.salvaging.salvage.Goals as goal

pub returns-in_err-file-clause-owed : goal.returns-in_err-file-clause-owed
returns-in_err-file-clause-owed g c =
    let S = g.S.Shelf in
    let files = S.files c.args.shelf.now in
    let F = λ (name : List ℕ). Rose (S.read_faults c.args.shelf.now name) (S.read_faults c.read_file.new.shelf name) in
    let trace = c.args.trace.now in
    let out = c.args.out.now in
    let P = HasStarted (S.starts c.args.shelf.now) (S.starts c.read_file.new.shelf) in
    let kept : IsKept files P (S.files c.read_file.new.shelf) = (c.read_file.ensures.files, c.read_file.ensures.starts) in
    passed-owed (IsUnread trace_limit words.Trace trace files F) (Saves trace out files F P) (StopsSaving trace out files P)
    (Rose (S.write_faults c.args.shelf.now) (S.write_faults c.read_file.new.shelf)) (IsKept files P) (S.files c.read_file.new.shelf)
    c.in_err-file.field-0.0 c.from_residual.result c.from_residual.ensures.1 kept (λ a x is. inl (inl is, kept))
    c.in_err-file.ensures.refused

pub returns-in_err-whole-clause-owed : goal.returns-in_err-whole-clause-owed
returns-in_err-whole-clause-owed g c =
    let S = g.S.Shelf in
    let files = S.files c.args.shelf.now in
    let F = λ (name : List ℕ). Rose (S.read_faults c.args.shelf.now name) (S.read_faults c.read_file.new.shelf name) in
    let trace = c.args.trace.now in
    let out = c.args.out.now in
    let file = c.in_ok-file.file in
    let P = HasStarted (S.starts c.args.shelf.now) (S.starts c.read_file.new.shelf) in
    let kept : IsKept files P (S.files c.read_file.new.shelf) = (c.read_file.ensures.files, c.read_file.ensures.starts) in
    passed-owed (IsHeaderless file) (Saves trace out files F P) (StopsSaving trace out files P)
    (Rose (S.write_faults c.args.shelf.now) (S.write_faults c.read_file.new.shelf)) (IsKept files P) (S.files c.read_file.new.shelf)
    c.in_err-whole.field-0.0 c.from_residual-in_err-whole.result c.from_residual-in_err-whole.ensures.1 kept
    (λ a x is. inl (inr (file, c.in_ok-file.ensures.read, is), kept)) c.in_err-whole.ensures.refused

pub returns-clause-owed : goal.returns-clause-owed
returns-clause-owed g c =
    let S = g.S.Shelf in
    let files = S.files c.args.shelf.now in
    let F = λ (name : List ℕ). Rose (S.read_faults c.args.shelf.now name) (S.read_faults c.written.new.shelf name) in
    let trace = c.args.trace.now in
    let old = S.write_faults c.args.shelf.now in
    let middle = S.write_faults c.read_file.new.shelf in
    let now = S.write_faults c.written.new.shelf in
    let file = c.in_ok-file.file in
    let whole = c.in_ok-whole.whole in
    let holds : Holds (IsWhole trace files) whole =
    holds-as (IsWholeIn file) (IsWhole trace files) whole (λ t is. (file, c.in_ok-file.ensures.read, is)) c.in_ok-whole.ensures.whole in
    written-owed (IsUnsaved trace files F) (IsWhole trace files) salvaged_line c.args.out.now files (S.files c.read_file.new.shelf)
    (S.files c.written.new.shelf) whole (Rose middle now) (Rose old now)
    (HasStarted (S.starts c.read_file.new.shelf) (S.starts c.written.new.shelf))
    (HasStarted (S.starts c.args.shelf.now) (S.starts c.written.new.shelf))
    c.written.result holds c.read_file.ensures.files
    (λ rose. rose-since old middle now c.read_file.ensures.counts.writes rose)
    (λ once. started-since (S.starts c.args.shelf.now) (S.starts c.read_file.new.shelf) (S.starts c.written.new.shelf) once
    c.read_file.ensures.starts)
    c.written.ensures.done c.written.ensures.files c.written.ensures.started c.written.ensures.stopped
