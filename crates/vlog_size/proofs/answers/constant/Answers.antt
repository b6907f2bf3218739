use Rattle.std.proofs.Common.{◌∙◌, subst, ap, sym, Some}
use Rattle.vlog_tree.specs.Plain.{plain_expr}
use Rattle.vlog_size.specs.Names.{Readable, params_alone, checked, is_lawful_const}
use Rattle.vlog_size.specs.Size.{sizes_of, number}
use Rattle.vlog_size.specs.Facts.{ShowsNumber}
use Rattle.vlog_size.proofs.Answered.{HasConstant, IsFound, faultless_constant, found_constant, has_number}
use Rattle.vlog_size.specs.declared.scope.Const.{Const}
use Rattle.vlog_size.proofs.answers.constant.Goals as goal

pub constant_from-requires : goal.constant_from-requires
constant_from-requires c =
    let N = params_alone c.args.params.now in
    let E = sizes_of (checked N) (plain_expr c.args.e.now) in
    let P : Readable → Type 0 = λ r. ShowsNumber c.numbered-whole.result (sizes_of r (plain_expr c.args.e.now)) in
    let shown : ShowsNumber c.numbered-whole.result E =
    subst P (c.checked-view.ensures ∙ ap checked c.params_view-names.ensures) c.numbered-whole.ensures in
    let has : HasConstant E (number E) =
    faultless_constant N (plain_expr c.args.e.now) (c.in_ok-faultless.ensures E shown.facts) in
    let found : IsFound c.numbered-whole.result E c.unwrap-n.result =
    found_constant c.numbered-whole.result E c.unwrap-n.result shown has c.unwrap-n.ensures in
    found.room

pub unwrap-n-requires : goal.unwrap-n-requires
unwrap-n-requires c =
    let N = params_alone c.args.params.now in
    let E = sizes_of (checked N) (plain_expr c.args.e.now) in
    let P : Readable → Type 0 = λ r. ShowsNumber c.numbered-whole.result (sizes_of r (plain_expr c.args.e.now)) in
    let shown : ShowsNumber c.numbered-whole.result E =
    subst P (c.checked-view.ensures ∙ ap checked c.params_view-names.ensures) c.numbered-whole.ensures in
    has_number c.numbered-whole.result E shown (faultless_constant N (plain_expr c.args.e.now) (c.in_ok-faultless.ensures E shown.facts))

pub returns-clause-value : goal.returns-clause-value
returns-clause-value c =
    let N = params_alone c.args.params.now in
    let E = sizes_of (checked N) (plain_expr c.args.e.now) in
    let P : Readable → Type 0 = λ r. ShowsNumber c.numbered-whole.result (sizes_of r (plain_expr c.args.e.now)) in
    let shown : ShowsNumber c.numbered-whole.result E =
    subst P (c.checked-view.ensures ∙ ap checked c.params_view-names.ensures) c.numbered-whole.ensures in
    let has : HasConstant E (number E) =
    faultless_constant N (plain_expr c.args.e.now) (c.in_ok-faultless.ensures E shown.facts) in
    let found : IsFound c.numbered-whole.result E c.unwrap-n.result =
    found_constant c.numbered-whole.result E c.unwrap-n.result shown has c.unwrap-n.ensures in
    found.same ∙ ap (λ (k : Const). Some k) (sym c.constant_from.ensures)

pub returns-clause-lawful : goal.returns-clause-lawful
returns-clause-lawful c =
    let N = params_alone c.args.params.now in
    let E = sizes_of (checked N) (plain_expr c.args.e.now) in
    let P : Readable → Type 0 = λ r. ShowsNumber c.numbered-whole.result (sizes_of r (plain_expr c.args.e.now)) in
    let shown : ShowsNumber c.numbered-whole.result E =
    subst P (c.checked-view.ensures ∙ ap checked c.params_view-names.ensures) c.numbered-whole.ensures in
    let has : HasConstant E (number E) =
    faultless_constant N (plain_expr c.args.e.now) (c.in_ok-faultless.ensures E shown.facts) in
    let found : IsFound c.numbered-whole.result E c.unwrap-n.result =
    found_constant c.numbered-whole.result E c.unwrap-n.result shown has c.unwrap-n.ensures in
    ap is_lawful_const c.constant_from.ensures ∙ found.lawful
