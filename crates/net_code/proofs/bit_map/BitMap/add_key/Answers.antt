use Rattle.std.proofs.Common.{ap, ◌||◌, ◌∙◌}
use Rattle.net_code.specs.BitMap.{in_map}
use Rattle.net_code.proofs.MaskLaws.{one_key}
use Rattle.net_code.proofs.bit_map.BitMap.add_key.Goals as goal

pub returns : goal.returns
returns c = λ m. c.in_ok-add.ensures m 0 ∙ ap (λ b. in_map c.args.self.now m 0 || b) (one_key c.args.key m)
