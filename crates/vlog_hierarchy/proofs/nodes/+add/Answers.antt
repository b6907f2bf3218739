use Rattle.std.proofs.Common.{◌≡◌, None, refl, ap, ◌∙◌, slice_get}
use Rattle.std.proofs.lemmas.Option.{slice_get_past}
use Rattle.std.proofs.lemmas.Result.{err_from_is_err_and}
use Rattle.vlog_hierarchy.specs.Outlines.{children_at}
use Rattle.vlog_hierarchy.specs.Plain.{plain_outlines, plain_path, plain_nodes}
use Rattle.vlog_hierarchy.specs.Nodes.{child_nodes}
use Rattle.vlog_hierarchy.proofs.Deeper.{none_added, none_inside, all_added}
use Rattle.vlog_hierarchy.proofs.Many.{many_here, many_in, many_among}
use Rattle.vlog_hierarchy.proofs.nodes.+add.Goals as goal

pub add_children-returns-in_err-add_nodes-clause-many : goal.add_children-returns-in_err-add_nodes-clause-many
add_children-returns-in_err-add_nodes-clause-many t c =
    let p = err_from_is_err_and c.from_residual-in_err-add_nodes.result c.from_residual-in_err-add_nodes.ensures.1 in
    rw (p.1, p.2)
    (many_among c.in_err-add_nodes.field-0.0 c.args.out.now c.loop-child.out c.args.depth (plain_outlines c.args.outlines.now)
    (plain_path c.args.path.now) c.args.children.now c.loop-child.child-index c.child-item.result (plain_path c.as_slice.result.now)
    c.loop-child-test.true c.child-item.is c.loop-child.invariant.value (ap plain_path c.as_slice.ensures ∙ c.in_ok-path.ensures)
    c.in_err-add_nodes.ensures.many)

pub add_nodes-returns-in_err-add_node-clause-many : goal.add_nodes-returns-in_err-add_node-clause-many
add_nodes-returns-in_err-add_node-clause-many t c =
    let p = err_from_is_err_and c.from_residual.result c.from_residual.ensures.1 in
    rw (p.1, p.2)
    (many_here c.in_err-add_node.field-0.0 _ c.args.depth (plain_outlines c.args.outlines.now) (plain_path c.args.path.now) c.args.place
    c.if-depth-eq0.false c.in_err-add_node.ensures.many)

pub add_nodes-returns-in_err-add_inside-clause-many : goal.add_nodes-returns-in_err-add_inside-clause-many
add_nodes-returns-in_err-add_inside-clause-many t c =
    let p = err_from_is_err_and c.from_residual-in_err-add_inside.result c.from_residual-in_err-add_inside.ensures.1 in
    rw (p.1, p.2)
    (many_in c.in_err-add_inside.field-0.0 c.args.out.now c.add_node.new.out c.args.depth (plain_outlines c.args.outlines.now)
    (plain_path c.args.path.now) c.args.place (children_at (plain_outlines c.args.outlines.now) c.args.place) c.if-depth-eq0.false
    c.in_ok-add_node.ensures.value refl c.in_err-add_inside.ensures.many)

pub add_nodes-returns-then-depth-eq0-clause-value : goal.add_nodes-returns-then-depth-eq0-clause-value
add_nodes-returns-then-depth-eq0-clause-value t c =
    none_added (plain_nodes c.args.out.now) c.args.depth (plain_outlines c.args.outlines.now) (plain_path c.args.path.now) c.args.place
    c.if-depth-eq0.true

pub add_nodes-returns-clause-value : goal.add_nodes-returns-clause-value
add_nodes-returns-clause-value t c =
    all_added (plain_nodes c.args.out.now) (plain_nodes c.add_node.new.out) (plain_nodes c.add_inside.new.out)
    (children_at (plain_outlines c.args.outlines.now) c.args.place) c.args.depth (plain_outlines c.args.outlines.now)
    (plain_path c.args.path.now)
    c.args.place c.if-depth-eq0.false c.in_ok-add_node.ensures.value c.in_ok-add_inside.ensures.value refl

pub add_inside-returns-in-None-clause-value : goal.add_inside-returns-in-None-clause-value
add_inside-returns-in-None-clause-value t c =
    let past : slice_get c.args.outlines.now c.args.place ≡ None =
    slice_get_past c.args.outlines.now c.args.place c.in-None.ensures.lookup.3 in
    none_inside (plain_nodes c.args.out.now) (child_nodes c.args.depth (plain_outlines c.args.outlines.now) (plain_path c.args.path.now))
    c.args.outlines.now c.args.place past
