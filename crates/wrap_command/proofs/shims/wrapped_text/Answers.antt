use Rattle.std.proofs.Common.{inl}
use Rattle.vlog_tree.specs.Plain.{plain}
use Rattle.wrap_command.specs.Shims.{IsFaultyTree, IsLong, IsReserved, IsUnwrapped}
use Rattle.vidi_bench.proofs.Chain.{all-as, passed-as}
use Rattle.wrap_command.proofs.Spelled.{faulty-unwrapped, long-unwrapped, text-said, wrapped-ok}
use Rattle.wrap_command.proofs.shims.wrapped_text.Goals as goal

pub returns-in_err-tree-clause-refused : goal.returns-in_err-tree-clause-refused
returns-in_err-tree-clause-refused c =
    let file = plain c.args.file.now in
    passed-as (IsReserved file) (IsUnwrapped file c.args.map.now) c.in_err-tree.field-0.0 c.from_residual.result
    c.from_residual.ensures.1 (λ a x is. inl is) c.in_err-tree.ensures.refused

pub returns-in_err-check_tree-clause-refused : goal.returns-in_err-check_tree-clause-refused
returns-in_err-check_tree-clause-refused c =
    let file = plain c.args.file.now in
    let tree = plain c.in_ok-tree.tree in
    passed-as (IsFaultyTree tree) (IsUnwrapped file c.args.map.now) c.in_err-check_tree.field-0.0
    c.from_residual-in_err-check_tree.result c.from_residual-in_err-check_tree.ensures.1
    (faulty-unwrapped file c.args.map.now tree c.in_ok-tree.ensures.tree c.in_ok-tree.ensures.names) c.in_err-check_tree.ensures.refused

pub returns-clause-wrapped : goal.returns-clause-wrapped
returns-clause-wrapped c =
    wrapped-ok c.printed_is_read.ensures (plain c.args.file.now) c.args.map.now (plain c.in_ok-tree.tree) c.short_text.result
    c.in_ok-tree.ensures.tree c.in_ok-tree.ensures.good c.in_ok-tree.ensures.names c.in_ok-check_tree.ensures.clear
    c.short_text.ensures.text c.short_text.ensures.fits

pub returns-clause-text : goal.returns-clause-text
returns-clause-text c = text-said (plain c.args.file.now) c.args.map.now (plain c.in_ok-tree.tree) c.short_text.result
    c.in_ok-tree.ensures.tree c.short_text.ensures.text

pub returns-clause-refused : goal.returns-clause-refused
returns-clause-refused c =
    let file = plain c.args.file.now in
    let tree = plain c.in_ok-tree.tree in
    all-as (IsLong tree) (IsUnwrapped file c.args.map.now) c.short_text.result
    (long-unwrapped file c.args.map.now tree c.in_ok-tree.ensures.tree c.in_ok-tree.ensures.names c.in_ok-check_tree.ensures.clear)
    c.short_text.ensures.refused
