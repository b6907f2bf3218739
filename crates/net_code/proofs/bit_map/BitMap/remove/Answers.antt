use Rattle.net_code.proofs.MaskLaws.{removed}
use Rattle.net_code.proofs.bit_map.BitMap.remove.Goals as goal

pub returns : goal.returns
returns c =
    removed c.args.self.now c.set_mask.new.self c.args.net c.mask-mask.result c.args.bits c.mask-mask.ensures c.mask-mask.type_inv
    c.ranges.bits.fits c.in_ok-set_mask.ensures
