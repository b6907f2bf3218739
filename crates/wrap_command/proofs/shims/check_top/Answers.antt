use Rattle.std.proofs.Common.{inl, inr}
use Rattle.vlog_tree.specs.Plain.{plain}
use Rattle.wrap_command.specs.Shims.{IsFaultyTop, IsLoopedTop, IsRefusedTop}
use Rattle.vidi_bench.proofs.Chain.{all-as, passed-as}
use Rattle.wrap_command.proofs.shims.check_top.Goals as goal

pub returns-in_err-design-clause-refused : goal.returns-in_err-design-clause-refused
returns-in_err-design-clause-refused c =
    let tree = plain c.args.tree.now in
    passed-as (IsRefusedTop c.args.top.now tree) (IsFaultyTop c.args.top.now tree) c.in_err-design.field-0.0
    c.from_residual.result c.from_residual.ensures.1 (λ a x is. inl is) c.in_err-design.ensures.refused

pub returns-clause-refused : goal.returns-clause-refused
returns-clause-refused c =
    let tree = plain c.args.tree.now in
    let design = c.in_ok-design.design in
    all-as (IsLoopedTop design) (IsFaultyTop c.args.top.now tree) c.check_order.result
    (λ a x is. inr (design, c.in_ok-design.ensures.accepted, is)) c.check_order.ensures.refused
