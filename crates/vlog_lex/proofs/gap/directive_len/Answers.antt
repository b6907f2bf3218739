use Rattle.std.proofs.Common.{sym, ◌∙◌, ap}
use Rattle.std.proofs.lemmas.List.{take_rest}
use Rattle.std.specs.List.{prefix_len}
use Rattle.vlog_lex.specs.Gap.{is_no_newline}
use Rattle.vlog_lex.proofs.Gaps.{directive_yes, directive_other, directive_no}
use Rattle.vlog_lex.proofs.gap.directive_len.Goals as goal

pub returns-in_default : goal.returns-in_default
returns-in_default c = directive_no c.args.bytes.now c.in_default.ensures.none

pub returns-then-is_directive : goal.returns-then-is_directive
returns-then-is_directive c =
    let rest = c.in-Some.rest.now in
    let word = c.name_part_len-word.result in
    directive_yes c.args.bytes.now rest word c.line_len.result c.in-Some.ensures.found c.name_part_len-word.ensures.value
    (sym c.is_directive.ensures ∙ c.if-is_directive.true) (c.line_len.ensures.value ∙ ap (prefix_len is_no_newline) (take_rest rest word))

pub returns-else-is_directive : goal.returns-else-is_directive
returns-else-is_directive c =
    directive_other c.args.bytes.now c.in-Some.rest.now c.name_part_len-word.result c.in-Some.ensures.found
    c.name_part_len-word.ensures.value
    (sym c.is_directive.ensures ∙ c.if-is_directive.false)
