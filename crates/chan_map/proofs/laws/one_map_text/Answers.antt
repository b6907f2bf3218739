use Rattle.chan_map.proofs.OneText.{one-map_text}
use Rattle.chan_map.proofs.laws.one_map_text.Goals as goal

pub returns : goal.returns
returns c = one-map_text
