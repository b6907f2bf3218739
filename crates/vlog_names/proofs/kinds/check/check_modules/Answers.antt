use Rattle.std.proofs.Common.{map}
use Rattle.vlog_tree.specs.Plain.{plain_module}
use Rattle.vlog_names.proofs.Places.{declares}
use Rattle.vlog_names.proofs.kinds.check.check_modules.Goals as goal

pub check_module-requires : goal.check_module-requires
check_module-requires c =
    declares c.args.all.now c.loop-place.place c.index-all-place.result c.in-Some.names.now c.loop-place-test.true c.index-all-place.is
    (c.in-Some.ensures (map plain_module c.args.all.now) c.requires)
