use Rattle.net_reference.proofs.SettledParts.{same_held}
use Rattle.net_reference.proofs.reference.same_state.Goals as goal

pub returns : goal.returns
returns c =
    let e = same_held c.args.design.now c.args.a.now.nets c.args.b.now.nets in
    ((λ h. e.0 (c.same_registers.ensures.0 h)), (λ h. c.same_registers.ensures.1 (e.1 h)))
