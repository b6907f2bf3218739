use Rattle.net_code.proofs.MaskLaws.{added}
use Rattle.net_code.proofs.bit_map.BitMap.add.Goals as goal

pub returns : goal.returns
returns c = added c.args.self.now c.set_mask.new.self c.args.net c.mask-mask.result c.args.bits c.mask-mask.ensures c.in_ok-set_mask.ensures
