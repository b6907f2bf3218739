use Rattle.std.proofs.Common.{sym, ◌∙◌, arith}
use Rattle.net_instr.proofs.NeedLaws.{all_enough}
use Rattle.net_instr.proofs.needs.all_nets.Goals as goal

pub returns : goal.returns
returns c =
    all_enough c.args.places.now c.args.code.now c.in_ok-list.list (c.in_ok-list.ensures.0 ∙ sym c.requires)
    (λ i l. c.in_ok-list.ensures.1 i (let e = c.requires in omega (arith, l, e)))
