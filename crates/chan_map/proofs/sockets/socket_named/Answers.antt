use Rattle.std.proofs.Common.{◌∙◌}
use Rattle.chan_map.proofs.sockets.socket_named.Goals as goal

pub returns : goal.returns
returns c = c.socket_under.ensures ∙ c.requires c.args.name.now
