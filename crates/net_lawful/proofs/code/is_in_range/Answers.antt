use Rattle.net_lawful.proofs.CodeLaws.{range_is, range_sized}
use Rattle.net_lawful.proofs.code.is_in_range.Goals as goal

pub returns-clause-range : goal.returns-clause-range
returns-clause-range c =
    let e = range_is c.args.design.now c.args.rooms.now c.requires.rooms c.args.acts.now in
    ((λ h. e.0 (c.acts_in.ensures.0 h)), (λ h. c.acts_in.ensures.1 (e.1 h)))

pub returns-clause-sized : goal.returns-clause-sized
returns-clause-sized c = λ h.
    let e = range_is c.args.design.now c.args.rooms.now c.requires.rooms c.args.acts.now in
    range_sized c.args.design.now c.requires.framed c.args.acts.now (e.0 (c.acts_in.ensures.0 h))
