use Rattle.chan_map.proofs.Found.{lawful_widths}
use Rattle.chan_map.proofs.laws.lawful_ports_have_widths.Goals as goal

pub returns : goal.returns
returns c = lawful_widths
