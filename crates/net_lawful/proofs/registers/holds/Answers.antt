use Rattle.net_lawful.proofs.RegisterLaws.{no_stray}
use Rattle.net_lawful.proofs.registers.holds.Goals as goal

pub returns : goal.returns
returns c =
    let e = no_stray c.args.held c.args.number in
    ((λ h. e.0 (c.is_within.ensures.0 h)), (λ h. c.is_within.ensures.1 (e.1 h)))
