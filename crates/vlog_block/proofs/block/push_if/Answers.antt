use Rattle.std.proofs.Common.{◌++◌, ◌∷◌, [], List, ap, sym, subst, ◌∙◌}
use Rattle.std.proofs.lemmas.Result.{on_ok_weaker}
use Rattle.vlog_tree.specs.Plain.{plain_expr}
use Rattle.net_design.specs.declared.act.Guard.{Guard}
use Rattle.net_design.specs.Sized.{AreSizedGuards}
use Rattle.vlog_block.specs.Sources.{names_of}
use Rattle.vlog_block.specs.Value.{value}
use Rattle.vlog_block.specs.Extends.{Extends, doing_branch, doing_if}
use Rattle.vlog_block.proofs.Extending.{extends_same}
use Rattle.vlog_block.proofs.Statements.{one_guard}
use Rattle.vlog_block.proofs.block.push_if.Goals as goal

pub push_branch-requires-clause-guards : goal.push_branch-requires-clause-guards
push_branch-requires-clause-guards c =
    subst (λ (gs : List Guard). AreSizedGuards gs)
    (sym (c.in_ok-push.ensures.ok
    ∙ ap (λ (gs : List Guard). gs ++ record { condition = c.in_ok-condition.condition; body = c.args.then_acts } ∷ [])
    c.new-guards.ensures))
    ((c.in_ok-condition.ensures.sized, c.requires.then_acts), tt)

pub returns : goal.returns
returns c =
    let r = names_of c.args.scope.now in
    let e = plain_expr c.args.condition.now in
    let g : Guard = record { condition = c.in_ok-condition.condition; body = c.args.then_acts } in
    let one = c.in_ok-push.ensures.ok ∙ ap (λ (gs : List Guard). gs ++ g ∷ []) c.new-guards.ensures in
    on_ok_weaker c.push_branch.result
    (λ x. extends_same (doing_branch (g ∷ []) c.args.else_acts) (doing_if r e c.args.then_acts c.args.else_acts) c.args.out.now
    c.push_branch.new.out (one_guard r e g c.args.else_acts
    (λ v. c.in_ok-condition.ensures.value v ∙ ap (λ w. value r v e w) c.own_width-w.ensures) (λ m k. c.in_ok-condition.ensures.reads m k))
    (subst (λ (gs : List Guard). Extends (doing_branch gs c.args.else_acts) c.args.out.now c.push_branch.new.out) one x))
    c.push_branch.ensures
