use Rattle.std.proofs.Common.{◌∙◌}
use Rattle.chan_map.proofs.Keys.{any_text}
use Rattle.chan_map.proofs.seen.is_there.Goals as goal

pub returns : goal.returns
returns c = c.is_some.ensures ∙ (c.get_index_of.ensures.found ∙ any_text c.args.name.now c.args.names.now.keys)
