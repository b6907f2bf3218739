use Rattle.std.proofs.Common.{sym, ◌∙◌}
use Rattle.std.proofs.lemmas.List.{take_rest}
use Rattle.vlog_lex.proofs.Numbers.{based_yes, based_no, based_bare}
use Rattle.vlog_lex.proofs.scan.based_len.Goals as goal

pub returns-in_default : goal.returns-in_default
returns-in_default c =
    let bytes = c.args.bytes.now in
    let size = c.digits_len-size.result in
    based_no size bytes c.digits_len-size.ensures (λ base rest e. absurd (c.in_default.ensures.none base rest (take_rest bytes size ∙ e)))

pub returns-then-digits-gt0 : goal.returns-then-digits-gt0
returns-then-digits-gt0 c =
    let bytes = c.args.bytes.now in
    let size = c.digits_len-size.result in
    based_yes size c.in-Some.base c.digits_len-digits.result bytes c.in-Some.rest.now c.digits_len-size.ensures
    (sym (take_rest bytes size) ∙ c.in-Some.ensures.found) c.digits_len-digits.ensures c.if-digits-gt0.true

pub returns-else-digits-gt0 : goal.returns-else-digits-gt0
returns-else-digits-gt0 c =
    let bytes = c.args.bytes.now in
    let size = c.digits_len-size.result in
    based_bare size c.in-Some.base c.digits_len-digits.result bytes c.in-Some.rest.now c.digits_len-size.ensures
    (sym (take_rest bytes size) ∙ c.in-Some.ensures.found) c.digits_len-digits.ensures c.if-digits-gt0.false
