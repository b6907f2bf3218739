use Rattle.std.proofs.lemmas.Result.{on_ok_weaker}
use Rattle.flat_layout.proofs.Chains.{child_added}
use Rattle.flat_layout.proofs.instance.add_child.Goals as goal

pub returns : goal.returns
returns c =
    on_ok_weaker c.push.result
    (λ grew. child_added c.args.list.now c.args.out.now c.push.new.self c.in_ok-child.child c.args.number c.requires.there
    c.requires.later c.requires.before grew c.in_ok-child.ensures.before c.in_ok-child.ensures.path)
    c.push.ensures.ok
