use Rattle.net_code.proofs.MaskLaws.{none_in}
use Rattle.net_code.proofs.bit_map.BitMap.new.Goals as goal

pub returns : goal.returns
returns c = none_in (record { masks = c.new.result }) c.new.ensures.empty
