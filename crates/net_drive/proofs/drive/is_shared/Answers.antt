use Rattle.std.proofs.Common.{◌∙◌}
use Rattle.net_code.proofs.MaskLaws.{net_is}
use Rattle.net_drive.proofs.drive.is_shared.Goals as goal

pub returns : goal.returns
returns c = c.has_bit.ensures ∙ net_is c.args.tally.now.more c.args.key 0 c.mask.result c.mask.ensures
