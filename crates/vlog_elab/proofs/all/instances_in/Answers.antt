use Rattle.vlog_hierarchy.specs.Outlines.{place_of}
use Rattle.vlog_elab.specs.Plain.{trees_in, plain_instances}
use Rattle.vlog_elab.proofs.Added.{all_below}
use Rattle.vlog_elab.proofs.all.instances_in.Goals as goal

pub returns : goal.returns
returns c = all_below (trees_in c.args.modules.now) (place_of (trees_in c.args.modules.now) c.args.top.now)
    (plain_instances c.add_top.new.out) (plain_instances c.add_inside.new.out) c.in_ok-add_top.ensures c.in_ok-add_inside.ensures
