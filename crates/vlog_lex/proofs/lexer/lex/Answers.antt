use Rattle.std.proofs.Common.{sym, ◌∙◌}
use Rattle.vlog_lex.proofs.Readings.{reads_gap, reads_token, reads_all, reads_stuck, reads_stuck_on, shorter, one_answer, not_both}
use Rattle.vlog_lex.proofs.lexer.lex.Goals as goal

pub loop-rest-preserved-then-gap-gt0 : goal.loop-rest-preserved-then-gap-gt0
loop-rest-preserved-then-gap-gt0 c =
    reads_gap c.args.bytes.now c.loop-rest.rest.now c.loop-rest.tokens c.loop-rest.line c.gap_len-gap.result c.newlines-line.result
    c.loop-rest.invariant (c.gap_len-gap.ensures.found c.if-gap-gt0.true) c.newlines-line.ensures

pub loop-rest-preserved : goal.loop-rest-preserved
loop-rest-preserved c =
    reads_token c.args.bytes.now c.loop-rest.rest.now c.loop-rest.tokens c.push.new.self c.loop-rest.line c.in-Some.len c.in-Some.kind
    c.in_ok-token.token c.loop-rest.invariant c.in-Some.ensures.1 c.in_ok-token.ensures c.in_ok-push.ensures.ok

pub loop-rest-smaller : goal.loop-rest-smaller
loop-rest-smaller c = shorter c.loop-rest.rest.now c.in-Some.len c.in-Some.kind c.in-Some.ensures.0 c.in-Some.ensures.1

pub returns-in_default-clause-answer : goal.returns-in_default-clause-answer
returns-in_default-clause-answer c =
    reads_stuck_on c.args.bytes.now c.loop-rest.rest.now c.loop-rest.tokens c.loop-rest.line c.gap_len-gap.result c.loop-rest.invariant
    (sym c.is_empty.ensures ∙ c.loop-rest-test.true) c.gap_len-gap.ensures c.if-gap-gt0.false c.in_default.ensures

pub returns-in_default-clause-only : goal.returns-in_default-clause-only
returns-in_default-clause-only c = λ tokens has.
    absurd (not_both c.args.bytes.now tokens has
    (reads_stuck c.args.bytes.now c.loop-rest.rest.now c.loop-rest.tokens c.loop-rest.line c.gap_len-gap.result c.loop-rest.invariant
    (sym c.is_empty.ensures ∙ c.loop-rest-test.true) c.gap_len-gap.ensures c.if-gap-gt0.false c.in_default.ensures))

pub returns-clause-answer : goal.returns-clause-answer
returns-clause-answer c = reads_all c.args.bytes.now c.loop-rest.rest.now c.loop-rest.tokens c.loop-rest.line c.loop-rest.invariant
    (sym c.is_empty.ensures ∙ c.loop-rest-test.false)

pub returns-clause-only : goal.returns-clause-only
returns-clause-only c = λ tokens has.
    one_answer c.args.bytes.now c.loop-rest.tokens tokens (reads_all c.args.bytes.now c.loop-rest.rest.now c.loop-rest.tokens
    c.loop-rest.line c.loop-rest.invariant (sym c.is_empty.ensures ∙ c.loop-rest-test.false)) has

pub returns-clause-stuck : goal.returns-clause-stuck
returns-clause-stuck c = λ stuck.
    absurd (not_both c.args.bytes.now c.loop-rest.tokens (reads_all c.args.bytes.now c.loop-rest.rest.now c.loop-rest.tokens
    c.loop-rest.line c.loop-rest.invariant (sym c.is_empty.ensures ∙ c.loop-rest-test.false)) stuck)
