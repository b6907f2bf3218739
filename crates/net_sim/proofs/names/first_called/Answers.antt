use Rattle.std.proofs.Common.{arith}
use Rattle.std.proofs.lemmas.Option.{slice_get_within}
use Rattle.net_sim.proofs.NameLaws.{not_called}
use Rattle.net_sim.proofs.names.first_called.Goals as goal

pub loop-m-preserved : goal.loop-m-preserved
loop-m-preserved c =
    not_called c.args.instances.now c.args.nets.now c.args.name.now c.loop-m.m c.index-nets-m.result c.loop-m-test.true c.index-nets-m.is
    (λ h. let t = c.is_called.ensures.1 h in let f = c.if-is_called.false in absurd (cc)) c.loop-m.invariant

pub returns : goal.returns
returns c = λ m called.
    let l = slice_get_within c.args.nets.now m called.0 called.1 in
    c.loop-m.invariant m (omega (arith, l, c.loop-m-test.false)) called
