use Rattle.std.proofs.Common.{◌++◌, ◌∷◌, [], List, sym, subst}
use Rattle.std.proofs.lemmas.Result.{on_ok_weaker}
use Rattle.vlog_tree.specs.Plain.{plain_expr}
use Rattle.net_design.specs.declared.act.Act.{Act}
use Rattle.net_design.specs.declared.act.Act.TheVariants.{Read}
use Rattle.vlog_block.specs.Sources.{names_of}
use Rattle.vlog_block.specs.Extends.{Extends, doing_read}
use Rattle.vlog_block.proofs.Extending.{extends_one, extends_same, doing_act}
use Rattle.vlog_block.proofs.Statements.{read_does}
use Rattle.vlog_block.proofs.block.push_read.Goals as goal

pub returns : goal.returns
returns c =
    let r = names_of c.args.scope.now in
    let e = plain_expr c.args.e.now in
    let a = Read c.in_ok-value.value in
    let old : List Act = c.args.out.now in
    on_ok_weaker c.push.result
    (λ p. subst (λ (xs : List Act). Extends (doing_read r e) old xs) (sym p)
    (extends_same (doing_act a) (doing_read r e) old (old ++ a ∷ [])
    (read_does r e c.in_ok-value.value (λ m k. c.in_ok-value.ensures.reads m k))
    (extends_one old a c.in_ok-value.ensures.sized))) c.push.ensures.ok
