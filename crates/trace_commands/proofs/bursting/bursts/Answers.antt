use Rattle.std.proofs.Common.{ℕ, List, inl, inr}
use Rattle.vidi_answer.specs.vidi_io.Cause.{Rose}
use Rattle.vidi_answer.specs.report_text.declared.reason.Word.TheVariants as words
use Rattle.vidi_answer.specs.Ended.{IsAnswered}
use Rattle.vidi_answer.specs.Reading.{IsUnread}
use Rattle.trace_commands.specs.Bursts.{text_limit, Bursts, GroupedFiles}
use Rattle.vidi_answer.proofs.Chain.{all-answered, answered-as, read-as, rose-since, unread-as}
use Rattle.trace_commands.proofs.bursting.bursts.Goals as goal

pub returns-in_err-text-clause-answered : goal.returns-in_err-text-clause-answered
returns-in_err-text-clause-answered g c =
    let S = g.S.Shelf in
    let files = S.files c.args.shelf.now in
    let old = S.read_faults c.args.shelf.now in
    let middle = S.read_faults c.read_file.new.shelf in
    let now = S.read_faults c.read_file-2.new.shelf in
    let F = λ (name : List ℕ). Rose (old name) (now name) in
    let G = λ (name : List ℕ). Rose (middle name) (now name) in
    let axi = c.args.axi.now in
    let unread = unread-as text_limit words.Axi axi files (S.files c.read_file.new.shelf) G F c.read_file.ensures.files
    (λ rose. rose-since (old axi) (middle axi) (now axi) (c.read_file.ensures.counts.reads axi) rose) in
    answered-as (IsUnread text_limit words.Axi axi (S.files c.read_file.new.shelf) G) (Bursts c.args.trace.now axi files F)
    c.in_err-text.field-0.0 c.from_residual-in_err-text.result c.from_residual-in_err-text.ensures.1
    (λ a x is. inr (c.in_ok-file.file, c.in_ok-file.ensures.read, inl (unread a x is))) c.in_err-text.ensures.refused

pub returns-clause-answered : goal.returns-clause-answered
returns-clause-answered g c =
    let S = g.S.Shelf in
    let files = S.files c.args.shelf.now in
    let F = λ (name : List ℕ). Rose (S.read_faults c.args.shelf.now name) (S.read_faults c.read_file-2.new.shelf name) in
    let file = c.in_ok-file.file in
    let text = c.in_ok-text.text in
    let read = read-as text_limit c.args.axi.now files (S.files c.read_file.new.shelf) text c.read_file.ensures.files
    c.in_ok-text.ensures.read in
    let answered : IsAnswered (GroupedFiles file text) c.grouped_files.result =
    rw c.as_slice.ensures at c.grouped_files.ensures in
    all-answered (GroupedFiles file text) (Bursts c.args.trace.now c.args.axi.now files F) c.grouped_files.result
    (λ a x is. inr (file, c.in_ok-file.ensures.read, inr (text, read, is))) answered
