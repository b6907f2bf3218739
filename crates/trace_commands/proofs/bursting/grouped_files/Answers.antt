use Rattle.std.proofs.Common.{inr}
use Rattle.vidi_answer.specs.Steps.{Never}
use Rattle.trace_commands.specs.Bursts.{Grouped, GroupedFiles, Porting}
use Rattle.vidi_answer.proofs.Chain.{answered-as}
use Rattle.trace_commands.proofs.Ported.{never-ported}
use Rattle.trace_commands.proofs.bursting.grouped_files.Goals as goal

pub returns-in_err-axi : goal.returns-in_err-axi
returns-in_err-axi c =
    let t = c.in_ok-trace.trace in
    let text = c.args.text.now in
    answered-as (Porting text t.channels (λ _. Never)) (GroupedFiles c.args.file text) c.in_err-axi.field-0.0
    c.from_residual-in_err-axi.result c.from_residual-in_err-axi.ensures.1
    (λ a x is. inr (t, c.in_ok-trace.ensures.fit, never-ported text t.channels (Grouped t) a x is)) c.in_err-axi.ensures.refused

pub returns : goal.returns
returns c =
    let bound = c.in_ok-axi.ensures.bound in
    inr (c.in_ok-trace.trace, c.in_ok-trace.ensures.fit, inr (bound.0, bound.1, inr (c.in_ok-axi.axi, bound.2, c.in_ok-grouped.ensures)))
