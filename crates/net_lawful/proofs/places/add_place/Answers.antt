use Rattle.std.proofs.Common.{ap, ◌||◌, ◌∙◌}
use Rattle.net_code.specs.BitMap.{in_map}
use Rattle.net_lawful.proofs.places.add_place.Goals as goal

pub returns : goal.returns
returns c = λ m k. c.in_ok-add.ensures m k ∙ ap (λ b. in_map c.args.seen.now m k || b) (c.place_mask-mask.ensures m k)
