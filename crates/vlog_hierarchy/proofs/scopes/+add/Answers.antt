use Rattle.std.proofs.Common.{◌≡◌, None, List, refl, ap, ◌∙◌, slice_get}
use Rattle.std.proofs.lemmas.Option.{slice_get_past}
use Rattle.vlog_tree.specs.Plain.{plain_instance}
use Rattle.vlog_hierarchy.specs.declared.scopes.Scope.{Scope}
use Rattle.vlog_hierarchy.specs.Outlines.{children_at}
use Rattle.vlog_hierarchy.specs.Plain.{plain_outlines}
use Rattle.vlog_hierarchy.specs.Clock.{child_scopes, child_joined, joined_at, scopes}
use Rattle.vlog_hierarchy.proofs.Scoped.{none_added, none_inside, all_added, next_added, still_at, still_within}
use Rattle.vlog_hierarchy.proofs.scopes.+add.Goals as goal

pub add_scopes-returns-then-depth-eq0 : goal.add_scopes-returns-then-depth-eq0
add_scopes-returns-then-depth-eq0 t c =
    none_added c.args.out.now c.args.depth (plain_outlines c.args.outlines.now) c.args.joined
    c.args.place c.if-depth-eq0.true

pub add_scopes-returns : goal.add_scopes-returns
add_scopes-returns t c =
    all_added c.args.out.now c.push.new.self c.add_inside.new.out (children_at (plain_outlines c.args.outlines.now) c.args.place)
    c.args.depth (plain_outlines c.args.outlines.now) c.args.joined c.args.place c.len-at.result c.if-depth-eq0.false c.len-at.ensures
    c.in_ok-push.ensures.ok c.in_ok-add_inside.ensures refl

pub add_inside-returns-in-None : goal.add_inside-returns-in-None
add_inside-returns-in-None t c =
    let past : slice_get c.args.outlines.now c.args.place ≡ None =
    slice_get_past c.args.outlines.now c.args.place c.in-None.ensures.lookup.3 in
    none_inside c.args.out.now (child_scopes c.args.depth (plain_outlines c.args.outlines.now) (joined_at c.args.out.now c.args.at))
    c.args.outlines.now c.args.place past

pub add_children-loop-child-preserved : goal.add_children-loop-child-preserved
add_children-loop-child-preserved t c = record {
  all = next_added c.args.out.now c.loop-child.out c.add_scopes.new.out _ c.args.children.now c.loop-child.child-index c.child-item.result
      c.in_ok-inner.inner c.args.depth (plain_outlines c.args.outlines.now) c.args.at c.loop-child-test.true c.child-item.is
      c.loop-child.invariant.all c.loop-child.invariant.own
      (c.in_ok-inner.ensures ∙ ap
      (λ (xs : List Scope). child_joined (joined_at xs c.args.at) (plain_instance c.child-item.result.instance.now))
      c.as_slice.ensures) c.in_ok-add_scopes.ensures;
  own = still_at c.args.out.now c.loop-child.out c.add_scopes.new.out
      (scopes c.args.depth (plain_outlines c.args.outlines.now) c.in_ok-inner.inner c.child-item.result.place) c.args.at
      c.loop-child.invariant.within c.loop-child.invariant.own c.in_ok-add_scopes.ensures;
  within = still_within c.loop-child.out c.add_scopes.new.out
      (scopes c.args.depth (plain_outlines c.args.outlines.now) c.in_ok-inner.inner c.child-item.result.place) c.args.at
      c.loop-child.invariant.within c.in_ok-add_scopes.ensures;
}
