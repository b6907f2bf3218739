use Rattle.std.proofs.Common.{ℕ, List, inl, inr}
use Rattle.vidi_answer.specs.vidi_io.Cause.{Rose}
use Rattle.vidi_answer.specs.report_text.declared.reason.Word.TheVariants as words
use Rattle.vidi_answer.specs.Ended.{IsAnswered}
use Rattle.vidi_answer.specs.Reading.{IsUnread}
use Rattle.trace_commands.specs.Traces.{trace_limit, Compares, ComparedFiles}
use Rattle.vidi_answer.proofs.Chain.{all-answered, answered-as, read-as, rose-since, unread-as}
use Rattle.trace_commands.proofs.comparing.compare.Goals as goal

pub returns-in_err-second-clause-answered : goal.returns-in_err-second-clause-answered
returns-in_err-second-clause-answered g c =
    let S = g.S.Shelf in
    let files = S.files c.args.shelf.now in
    let old = S.read_faults c.args.shelf.now in
    let middle = S.read_faults c.read_file.new.shelf in
    let now = S.read_faults c.read_file-2.new.shelf in
    let F = λ (name : List ℕ). Rose (old name) (now name) in
    let G = λ (name : List ℕ). Rose (middle name) (now name) in
    let other = c.args.other.now in
    let unread = unread-as trace_limit words.Other other files (S.files c.read_file.new.shelf) G F c.read_file.ensures.files
    (λ rose. rose-since (old other) (middle other) (now other) (c.read_file.ensures.counts.reads other) rose) in
    answered-as (IsUnread trace_limit words.Other other (S.files c.read_file.new.shelf) G) (Compares c.args.trace.now other files F)
    c.in_err-second.field-0.0 c.from_residual-in_err-second.result c.from_residual-in_err-second.ensures.1
    (λ a x is. inr (c.in_ok-first.first, c.in_ok-first.ensures.read, inl (unread a x is))) c.in_err-second.ensures.refused

pub returns-clause-answered : goal.returns-clause-answered
returns-clause-answered g c =
    let S = g.S.Shelf in
    let files = S.files c.args.shelf.now in
    let F = λ (name : List ℕ). Rose (S.read_faults c.args.shelf.now name) (S.read_faults c.read_file-2.new.shelf name) in
    let first = c.in_ok-first.first in
    let second = c.in_ok-second.second in
    let read = read-as trace_limit c.args.other.now files (S.files c.read_file.new.shelf) second c.read_file.ensures.files
    c.in_ok-second.ensures.read in
    let answered : IsAnswered (ComparedFiles first second) c.compared_files.result =
    rw c.as_slice-2.ensures at (rw c.as_slice.ensures at c.compared_files.ensures) in
    all-answered (ComparedFiles first second) (Compares c.args.trace.now c.args.other.now files F) c.compared_files.result
    (λ a x is. inr (first, c.in_ok-first.ensures.read, inr (second, read, is))) answered
