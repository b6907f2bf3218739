use Rattle.std.proofs.Common.{◌∙◌}
use Rattle.vlog_hierarchy.proofs.places.place_named.Goals as goal

pub returns : goal.returns
returns c = c.place_under.ensures ∙ c.requires c.args.name.now
