use Rattle.std.proofs.lemmas.Result.{on_ok_weaker}
use Rattle.vlog_tree.specs.Plain.{plain_item}
use Rattle.vlog_elab.specs.Plain.{trees_in, listed, plain_instances}
use Rattle.vlog_elab.proofs.Added.{no_child, child_here}
use Rattle.vlog_elab.proofs.inside.add_child.Goals as goal

pub returns-in-None : goal.returns-in-None
returns-in-None c = no_child (trees_in c.args.modules.now) c.args.at c.args.out.now c.args.declared (plain_item c.args.item.now)
    c.in-None.ensures

pub returns-in_ok-child-in-Some : goal.returns-in_ok-child-in-Some
returns-in_ok-child-in-Some c = on_ok_weaker c.add_listed.result
    (λ h. child_here (trees_in c.args.modules.now) c.args.at c.args.out.now c.in-Some.parent.now c.args.declared
    (plain_item c.args.item.now) (plain_instances c.add_listed.new.out) (listed c.in_ok-child-in-Some.child) c.in-Some.ensures h
    c.in_ok-child-in-Some.ensures)
    c.add_listed.ensures
