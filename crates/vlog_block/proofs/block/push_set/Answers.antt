use Rattle.std.proofs.Common.{rules, ◌≡◌, ◌≤◌, ◌++◌, ◌∷◌, [], List, ap, sym, subst, ◌∙◌}
use Rattle.std.proofs.lemmas.Result.{on_ok_weaker}
use Rattle.vlog_tree.specs.Tree.{AssignStmt}
use Rattle.vlog_tree.specs.Plain.{plain_expr, plain_target}
use Rattle.vlog_tree.specs.declared.stmt.AssignOp.{AssignOp}
use Rattle.net_design.specs.declared.act.Act.{Act}
use Rattle.net_design.specs.declared.act.Act.TheVariants.{Set}
use Rattle.net_design.specs.Updates as code
use Rattle.vlog_block.specs.Sources.{names_of}
use Rattle.vlog_block.specs.Value.{value}
use Rattle.vlog_block.specs.Updates.{assigned_width}
use Rattle.vlog_block.specs.Extends.{Extends, doing_stmt}
use Rattle.vlog_block.proofs.Fitting.{faultless_target_width}
use Rattle.vlog_block.proofs.Extending.{extends_one, extends_same, doing_act}
use Rattle.vlog_block.proofs.Statements.{set_does}
use Rattle.vlog_block.proofs.block.push_set.Goals as goal

pub returns : goal.returns
returns c =
    let r = names_of c.args.scope.now in
    let t = plain_target c.args.target.now in
    let e = plain_expr c.args.value.now in
    let places = c.in_ok-places.places in
    let x = c.in_ok-value.value in
    let a = Set places x in
    let old : List Act = c.args.out.now in
    let wide : c.max-w.result ≡ assigned_width r t e = search rules in
    let few : code.target_width places ≤ 128 =
    subst (λ n. n ≤ 128) (sym c.in_ok-places.ensures.width) (faultless_target_width c.args.scope.now t c.requires.target).1 in
    on_ok_weaker c.push.result
    (λ p (op : AssignOp). subst (λ (xs : List Act). Extends (doing_stmt r (AssignStmt t op e)) old xs) (sym p)
    (extends_same (doing_act a) (doing_stmt r (AssignStmt t op e)) old (old ++ a ∷ [])
    (set_does r t op e places x (λ n v. c.in_ok-places.ensures.updates n v)
    (λ v. c.in_ok-value.ensures.value v ∙ ap (λ w. value r v e w) wide)
    (λ m k. c.in_ok-places.ensures.writes m k) (λ m k. c.in_ok-places.ensures.adds m k) (λ m k. c.in_ok-places.ensures.reads m k)
    (λ m k. c.in_ok-value.ensures.reads m k) c.in_ok-places.ensures.names)
    (extends_one old a (few, c.in_ok-places.ensures.sized, c.in_ok-value.ensures.sized)))) c.push.ensures.ok
