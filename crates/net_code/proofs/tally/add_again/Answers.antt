use Rattle.std.proofs.Common.{ap, ◌||◌, ◌∙◌}
use Rattle.net_code.specs.BitMap.{in_map}
use Rattle.net_code.proofs.TallyLaws.{bits_seen}
use Rattle.net_code.proofs.tally.add_again.Goals as goal

pub returns : goal.returns
returns c = λ m k. c.in_ok-add.ensures m k
    ∙ ap (λ b. in_map c.args.more.now m k || b)
    (bits_seen c.args.once.now c.args.mask.net c.mask.result c.args.mask.bits m k c.mask.ensures)
