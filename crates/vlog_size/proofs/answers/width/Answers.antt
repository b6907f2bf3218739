use Rattle.std.proofs.Common.{◌≡◌, ◌∙◌, true, subst, ap, arith}
use Rattle.vlog_tree.specs.Plain.{plain_expr}
use Rattle.vlog_size.specs.Literal.{is_lawful}
use Rattle.vlog_size.specs.Names.{Readable, readable_of, checked}
use Rattle.vlog_size.specs.Size.{sizes_of}
use Rattle.vlog_size.specs.Facts.{Shows}
use Rattle.vlog_size.proofs.Answered.{faultless_width, within, narrow}
use Rattle.vlog_size.proofs.answers.width.Goals as goal

pub overflow_cast-result : goal.overflow_cast-result
overflow_cast-result c =
    let N = readable_of c.args.scope.now in
    let E = sizes_of (checked N) (plain_expr c.args.e.now) in
    let P : Readable → Type 0 = λ r. Shows c.facts_of-facts.result (sizes_of r (plain_expr c.args.e.now)) in
    let shown : Shows c.facts_of-facts.result E =
    subst P (c.checked-view.ensures ∙ ap checked c.whole_view-names.ensures) c.facts_of-facts.ensures in
    let lawful : is_lawful E.width ≡ true =
    faultless_width N (plain_expr c.args.e.now) (c.in_ok-faultless.ensures E shown) in
    let same : c.facts_of-facts.result.width ≡ E.width = within E.width c.facts_of-facts.result.width lawful shown.width in
    omega (arith, same, narrow E.width lawful)

pub returns-clause-value : goal.returns-clause-value
returns-clause-value c =
    let N = readable_of c.args.scope.now in
    let E = sizes_of (checked N) (plain_expr c.args.e.now) in
    let P : Readable → Type 0 = λ r. Shows c.facts_of-facts.result (sizes_of r (plain_expr c.args.e.now)) in
    let shown : Shows c.facts_of-facts.result E =
    subst P (c.checked-view.ensures ∙ ap checked c.whole_view-names.ensures) c.facts_of-facts.ensures in
    let lawful : is_lawful E.width ≡ true =
    faultless_width N (plain_expr c.args.e.now) (c.in_ok-faultless.ensures E shown) in
    let same : c.facts_of-facts.result.width ≡ E.width = within E.width c.facts_of-facts.result.width lawful shown.width in
    same

pub returns-clause-lawful : goal.returns-clause-lawful
returns-clause-lawful c =
    let N = readable_of c.args.scope.now in
    let E = sizes_of (checked N) (plain_expr c.args.e.now) in
    let P : Readable → Type 0 = λ r. Shows c.facts_of-facts.result (sizes_of r (plain_expr c.args.e.now)) in
    let shown : Shows c.facts_of-facts.result E =
    subst P (c.checked-view.ensures ∙ ap checked c.whole_view-names.ensures) c.facts_of-facts.ensures in
    let lawful : is_lawful E.width ≡ true =
    faultless_width N (plain_expr c.args.e.now) (c.in_ok-faultless.ensures E shown) in
    let same : c.facts_of-facts.result.width ≡ E.width = within E.width c.facts_of-facts.result.width lawful shown.width in
    ap is_lawful same ∙ lawful
