use Rattle.net_code.proofs.FoundLaws.{learn_one}
use Rattle.net_code.proofs.code_bits.learn.Goals as goal

pub returns : goal.returns
returns c =
    learn_one c.args.net c.args.bits c.mask.result c.args.known.now c.add.new.self c.args.fresh.now c.push.new.self c.ranges.bits.fits
    c.mask.type_inv
    c.mask.ensures c.in_ok-add.ensures c.in_ok-push.ensures.ok
