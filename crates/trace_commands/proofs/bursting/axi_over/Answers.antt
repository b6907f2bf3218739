use Rattle.std.proofs.Common.{inl, inr}
use Rattle.vidi_answer.specs.Steps.{Never}
use Rattle.trace_commands.specs.Bursts.{IsNoAxi, IsUnbound, Porting}
use Rattle.vidi_answer.proofs.Chain.{all-as, if-ends, passed-as}
use Rattle.trace_commands.proofs.bursting.axi_over.Goals as goal

pub returns-in_err-said-clause-refused : goal.returns-in_err-said-clause-refused
returns-in_err-said-clause-refused c =
    let text = c.args.text.now in
    let channels = c.args.channels.now in
    passed-as (IsNoAxi text) (Porting text channels (λ _. Never)) c.in_err-said.field-0.0 c.from_residual.result
    c.from_residual.ensures.1 (λ a x is. inl is) c.in_err-said.ensures.refused

pub returns-clause-bound : goal.returns-clause-bound
returns-clause-bound c = if-ends c.bound_axi.result c.bound_axi.ensures.bound
    (λ axi bound. (c.in_ok-said.said, c.in_ok-said.ensures.said, bound))

pub returns-clause-refused : goal.returns-clause-refused
returns-clause-refused c =
    let text = c.args.text.now in
    let channels = c.args.channels.now in
    let said = c.in_ok-said.said in
    all-as (IsUnbound said channels) (Porting text channels (λ _. Never)) c.bound_axi.result
    (λ a x is. inr (said, c.in_ok-said.ensures.said, inl is)) c.bound_axi.ensures.refused
