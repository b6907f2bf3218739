use Rattle.std.proofs.Common.{ap, ◌||◌, ◌∙◌}
use Rattle.net_code.specs.BitMap.{in_map}
use Rattle.net_code.proofs.TallyLaws.{seen_among}
use Rattle.net_code.proofs.tally.Tally.add_keys.Goals as goal

pub returns-clause-more : goal.returns-clause-more
returns-clause-more c = λ m. c.in_ok-add_keys_again.ensures m
    ∙ ap (λ b. in_map c.args.self.now.more m 0 || b) (seen_among (in_map c.args.self.now.once m 0) m c.args.keys.now)
