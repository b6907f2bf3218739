use Rattle.std.proofs.Common.{List, map, ap, sym, ◌∙◌, ◌++◌, ◌-◌, arith, slice_get}
use Rattle.std.specs.List.{flat_map}
use Rattle.std.proofs.lemmas.List.{length-map}
use Rattle.std.proofs.lemmas.Result.{on_ok_weaker}
use Rattle.vlog_tree.specs.Plain.{plain_item}
use Rattle.vlog_elab.specs.Instances.{within}
use Rattle.vlog_elab.specs.Inside.{children_at}
use Rattle.vlog_elab.specs.Plain.{trees_in, plain_instance, plain_instances}
use Rattle.vlog_elab.proofs.Added.{first_inside, next_inside, all_inside, none_added, none_inside, inside_here}
use Rattle.vlog_elab.proofs.inside.+add.Goals as goal

pub add_items-returns-then-depth-eq0 : goal.add_items-returns-then-depth-eq0
add_items-returns-then-depth-eq0 t c = none_added (plain_instances c.args.out.now) c.args.depth (trees_in c.args.modules.now) _
    c.if-depth-eq0.true

pub add_items-loop-item-init : goal.add_items-loop-item-init
add_items-loop-item-init t c = first_inside (trees_in c.args.modules.now) c.args.depth c.args.at c.args.out.now c.args.declared
    (map plain_item c.args.items.now) c.requires.there

pub add_items-loop-item-preserved : goal.add_items-loop-item-preserved
add_items-loop-item-preserved t c =
    next_inside (trees_in c.args.modules.now) c.args.depth c.args.at (plain_instances c.args.out.now) (plain_instances c.loop-item.out)
    (plain_instances c.add_child.new.out) (plain_instances c.add_inside.new.out) _ c.loop-item.count c.declared_past-count.result
    c.args.items.now c.loop-item.item-index c.item-item.result c.if-depth-eq0.false c.loop-item-test.true c.item-item.is
    c.loop-item.invariant c.in_ok-add_child.ensures
    (c.in_ok-add_inside.ensures
    ∙ ap (λ k. plain_instances c.add_child.new.out ++ flat_map (within (c.args.depth - 1) (trees_in c.args.modules.now))
    (children_at (trees_in c.args.modules.now) (slice_get (plain_instances c.add_child.new.out) k)))
    (c.len-next.ensures ∙ sym (length-map c.loop-item.out plain_instance)))
    c.declared_past-count.ensures

pub add_items-returns : goal.add_items-returns
add_items-returns t c = all_inside (trees_in c.args.modules.now) c.args.depth c.args.at (plain_instances c.args.out.now)
    (plain_instances c.loop-item.out) _ c.loop-item.count c.args.items.now c.loop-item.item-index
    (omega (arith, c.loop-item-test.false)) c.loop-item.invariant

pub add_inside-returns-in-Some : goal.add_inside-returns-in-Some
add_inside-returns-in-Some t c = on_ok_weaker c.add_items.result
    (λ h. inside_here (trees_in c.args.modules.now) c.args.depth c.args.at c.args.out.now c.add_items.new.out c.in-Some.parent.now
    c.as_slice.result.now c.in-Some.ensures c.as_slice.ensures h)
    c.add_items.ensures

pub add_inside-returns-in-None : goal.add_inside-returns-in-None
add_inside-returns-in-None t c = none_inside (trees_in c.args.modules.now) c.args.depth c.args.at c.args.out.now c.in-None.ensures
