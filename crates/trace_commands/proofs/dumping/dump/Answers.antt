use Rattle.std.proofs.Common.{ℕ, List, inl, inr}
use Rattle.vidi_answer.specs.vidi_io.Cause.{Rose}
use Rattle.vidi_answer.specs.report_text.declared.reason.Word.TheVariants as words
use Rattle.vidi_answer.specs.Ended.{EndsWith}
use Rattle.trace_commands.specs.Traces.{Dumps, IsNoTrace}
use Rattle.vidi_answer.proofs.Chain.{answered-as}
use Rattle.trace_commands.proofs.dumping.dump.Goals as goal

pub returns-in_err-trace-clause-answered : goal.returns-in_err-trace-clause-answered
returns-in_err-trace-clause-answered g c =
    let S = g.S.Shelf in
    let F = λ (name : List ℕ). Rose (S.read_faults c.args.shelf.now name) (S.read_faults c.read_file.new.shelf name) in
    let file = c.in_ok-file.file in
    let e = c.in_err-trace.field-0.0 in
    let refused : EndsWith (IsNoTrace words.Trace file) e = rw c.as_slice.ensures at c.in_err-trace.ensures.refused in
    answered-as (IsNoTrace words.Trace file) (Dumps c.args.trace.now (S.files c.args.shelf.now) F) e c.from_residual-in_err-trace.result
    c.from_residual-in_err-trace.ensures.1 (λ a x is. inr (file, c.in_ok-file.ensures.read, inl is)) refused

pub returns-clause-answered : goal.returns-clause-answered
returns-clause-answered g c =
    let decoded = rw c.as_slice.ensures at c.in_ok-trace.ensures.decoded in
    inr (c.in_ok-file.file, c.in_ok-file.ensures.read, inr (c.in_ok-trace.trace, decoded, c.in_ok-dumped.ensures))
