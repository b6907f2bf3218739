use Rattle.std.proofs.Common.{List, sym, subst}
use Rattle.std.proofs.lemmas.Result.{on_ok_weaker}
use Rattle.net_design.specs.declared.act.Act.{Act}
use Rattle.vlog_block.specs.Extends.{Extends, doing_branch}
use Rattle.vlog_block.proofs.Extending.{extends_branch}
use Rattle.vlog_block.proofs.block.push_branch.Goals as goal

pub returns : goal.returns
returns c = on_ok_weaker c.push.result
    (λ e. subst (λ (xs : List Act). Extends (doing_branch c.args.guards c.args.otherwise) c.args.out.now xs) (sym e)
    (extends_branch c.args.guards c.args.otherwise c.args.out.now c.requires.guards c.requires.otherwise)) c.push.ensures.ok
