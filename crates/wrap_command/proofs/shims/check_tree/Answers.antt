use Rattle.std.proofs.Common.{inl, inr}
use Rattle.vlog_tree.specs.Plain.{plain}
use Rattle.shim_gen.specs.shim_trees.RecordTop.{record_name}
use Rattle.shim_gen.specs.shim_trees.ReplayTop.{replay_name}
use Rattle.wrap_command.specs.Shims.{IsDeepTree, IsFaultyTop, IsFaultyTree}
use Rattle.vidi_bench.proofs.Chain.{all-as, passed-as}
use Rattle.wrap_command.proofs.shims.check_tree.Goals as goal

pub returns-in_err-check_depth-clause-refused : goal.returns-in_err-check_depth-clause-refused
returns-in_err-check_depth-clause-refused c =
    let tree = plain c.args.tree.now in
    passed-as (IsDeepTree tree) (IsFaultyTree tree) c.in_err-check_depth.field-0.0 c.from_residual.result
    c.from_residual.ensures.1 (λ a x is. inl is) c.in_err-check_depth.ensures.refused

pub returns-in_err-check_top-clause-refused : goal.returns-in_err-check_top-clause-refused
returns-in_err-check_top-clause-refused c =
    let tree = plain c.args.tree.now in
    passed-as (IsFaultyTop record_name tree) (IsFaultyTree tree) c.in_err-check_top.field-0.0
    c.from_residual-in_err-check_top.result c.from_residual-in_err-check_top.ensures.1
    (λ a x is. inr (c.in_ok-check_depth.ensures.shallow, inl is)) c.in_err-check_top.ensures.refused

pub returns-clause-refused : goal.returns-clause-refused
returns-clause-refused c =
    let tree = plain c.args.tree.now in
    all-as (IsFaultyTop replay_name tree) (IsFaultyTree tree) c.check_top-2.result
    (λ a x is. inr (c.in_ok-check_depth.ensures.shallow, inr (c.in_ok-check_top.ensures.clear, is))) c.check_top-2.ensures.refused
