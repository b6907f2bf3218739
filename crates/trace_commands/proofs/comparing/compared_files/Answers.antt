use Rattle.std.proofs.Common.{inl, inr}
use Rattle.vidi_answer.specs.report_text.declared.reason.Word.TheVariants as words
use Rattle.trace_commands.specs.Traces.{ComparedFiles, IsNoTrace}
use Rattle.vidi_answer.proofs.Chain.{answered-as}
use Rattle.trace_commands.proofs.comparing.compared_files.Goals as goal

pub returns-in_err-other : goal.returns-in_err-other
returns-in_err-other c =
    answered-as (IsNoTrace words.Other c.args.second.now) (ComparedFiles c.args.first.now c.args.second.now) c.in_err-other.field-0.0
    c.from_residual-in_err-other.result c.from_residual-in_err-other.ensures.1
    (λ a x is. inr (c.in_ok-trace.trace, c.in_ok-trace.ensures.decoded, inl is)) c.in_err-other.ensures.refused

pub returns : goal.returns
returns c = inr (
  c.in_ok-trace.trace,
  c.in_ok-trace.ensures.decoded,
  inr (c.in_ok-other.other, c.in_ok-other.ensures.decoded, c.in_ok-compared.ensures),
)
