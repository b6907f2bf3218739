use Rattle.std.proofs.Common.{inr}
use Rattle.vidi_answer.specs.report_text.declared.reason.Word.TheVariants as words
use Rattle.vidi_answer.specs.Traces.{HasReset}
use Rattle.trace_commands.specs.Bursts.{IsUnfit}
use Rattle.vidi_answer.proofs.Chain.{all-as}
use Rattle.trace_commands.proofs.bursting.fit_trace.Goals as goal

pub returns-clause-refused : goal.returns-clause-refused
returns-clause-refused c =
    let t = c.in_ok-trace.trace in
    let encodes = rw c.as_slice.ensures at c.in_ok-trace.ensures.decoded in
    all-as (HasReset words.Trace t.packets) (IsUnfit c.args.file) c.without_reset.result
    (λ a x is. inr (t, encodes, is)) c.without_reset.ensures.refused
