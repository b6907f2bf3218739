use Rattle.std.proofs.Common.{◌≡◌, ◌∙◌, true, subst, ap, arith}
use Rattle.vlog_tree.specs.Plain.{plain_target}
use Rattle.vlog_size.specs.Literal.{is_lawful}
use Rattle.vlog_size.specs.Names.{Readable, readable_of, checked}
use Rattle.vlog_size.specs.Size.{sizes_of_target}
use Rattle.vlog_size.specs.Facts.{Shows}
use Rattle.vlog_size.proofs.Answered.{faultless_target, within, narrow}
use Rattle.vlog_size.proofs.answers.target_width.Goals as goal

pub overflow_cast-result : goal.overflow_cast-result
overflow_cast-result c =
    let N = readable_of c.args.scope.now in
    let E = sizes_of_target (checked N) (plain_target c.args.target.now) in
    let P : Readable → Type 0 = λ r. Shows c.target_facts-facts.result (sizes_of_target r (plain_target c.args.target.now)) in
    let shown : Shows c.target_facts-facts.result E =
    subst P (c.checked-view.ensures ∙ ap checked c.whole_view-names.ensures) c.target_facts-facts.ensures in
    let lawful : is_lawful E.width ≡ true =
    faultless_target N (plain_target c.args.target.now) (c.in_ok-faultless.ensures E shown) in
    let same : c.target_facts-facts.result.width ≡ E.width = within E.width c.target_facts-facts.result.width lawful shown.width in
    omega (arith, same, narrow E.width lawful)

pub returns-clause-value : goal.returns-clause-value
returns-clause-value c =
    let N = readable_of c.args.scope.now in
    let E = sizes_of_target (checked N) (plain_target c.args.target.now) in
    let P : Readable → Type 0 = λ r. Shows c.target_facts-facts.result (sizes_of_target r (plain_target c.args.target.now)) in
    let shown : Shows c.target_facts-facts.result E =
    subst P (c.checked-view.ensures ∙ ap checked c.whole_view-names.ensures) c.target_facts-facts.ensures in
    let lawful : is_lawful E.width ≡ true =
    faultless_target N (plain_target c.args.target.now) (c.in_ok-faultless.ensures E shown) in
    let same : c.target_facts-facts.result.width ≡ E.width = within E.width c.target_facts-facts.result.width lawful shown.width in
    same

pub returns-clause-lawful : goal.returns-clause-lawful
returns-clause-lawful c =
    let N = readable_of c.args.scope.now in
    let E = sizes_of_target (checked N) (plain_target c.args.target.now) in
    let P : Readable → Type 0 = λ r. Shows c.target_facts-facts.result (sizes_of_target r (plain_target c.args.target.now)) in
    let shown : Shows c.target_facts-facts.result E =
    subst P (c.checked-view.ensures ∙ ap checked c.whole_view-names.ensures) c.target_facts-facts.ensures in
    let lawful : is_lawful E.width ≡ true =
    faultless_target N (plain_target c.args.target.now) (c.in_ok-faultless.ensures E shown) in
    let same : c.target_facts-facts.result.width ≡ E.width = within E.width c.target_facts-facts.result.width lawful shown.width in
    ap is_lawful same ∙ lawful
