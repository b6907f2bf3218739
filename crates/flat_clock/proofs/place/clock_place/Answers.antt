use Rattle.std.proofs.Common.{rules, ◌≡◌}
use Rattle.vlog_tree.specs.Plain.{plain}
use Rattle.flat_parts.specs.vlog_hierarchy.Plain.{plain_path}
use Rattle.flat_parts.specs.vlog_elab.Plain.{plain_instances}
use Rattle.flat_parts.specs.vlog_elab.Clock.{clock_inputs}
use Rattle.flat_clock.specs.Clock.{name_at, place_in}
use Rattle.flat_clock.proofs.Placed.{placed_clock}
use Rattle.flat_clock.proofs.place.clock_place.Goals as goal

pub returns : goal.returns
returns c =
    let own : plain_path c.as_slice.result.now ≡ clock_inputs (plain_instances c.args.list.now) = search rules in
    let found : c.place_in.result
    ≡ place_in (plain_instances c.args.list.now) (name_at (plain_path c.as_slice.result.now) c.in_ok-port.port) =
    search rules in
    placed_clock (plain c.args.file.now) c.args.name.now (plain_instances c.args.list.now) (plain_path c.as_slice.result.now)
    c.in_ok-port.port c.place_in.result c.requires.clear c.requires.listed own c.in_ok-port.ensures found
