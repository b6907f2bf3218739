use Rattle.std.proofs.Common.{◌∙◌}
use Rattle.wave_text.proofs.Keys.{any_text}
use Rattle.wave_text.proofs.lawful.is_there.Goals as goal

pub returns : goal.returns
returns c = c.is_some.ensures ∙ (c.get_index_of.ensures.found ∙ any_text c.args.name.now c.args.names.now.keys)
