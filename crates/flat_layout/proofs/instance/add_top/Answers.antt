use Rattle.std.proofs.lemmas.Result.{on_ok_weaker}
use Rattle.flat_layout.proofs.Chains.{top_added}
use Rattle.flat_layout.proofs.instance.add_top.Goals as goal

pub returns : goal.returns
returns c =
    on_ok_weaker c.push.result
    (λ grew. top_added c.args.list.now c.args.out.now c.push.new.self c.in_ok-top.top c.args.number c.requires.first c.requires.there
    c.requires.before grew c.in_ok-top.ensures)
    c.push.ensures.ok
