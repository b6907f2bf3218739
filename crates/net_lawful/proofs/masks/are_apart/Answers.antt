use Rattle.std.proofs.Common.{false}
use Rattle.net_lawful.proofs.MaskTests.{all_named}
use Rattle.net_lawful.proofs.masks.are_apart.Goals as goal

pub returns : goal.returns
returns c =
    let e = all_named c.args.set.now false c.args.masks.now in
    ((λ h. e.0 (c.all_apart.ensures.0 h)), (λ h. c.all_apart.ensures.1 (e.1 h)))
