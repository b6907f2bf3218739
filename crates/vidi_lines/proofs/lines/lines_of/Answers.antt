use Rattle.std.proofs.Common.{sym, ◌∙◌, ap, ◌+◌, drop, length}
use Rattle.std.proofs.lemmas.Result.{err_from_is_err_and}
use Rattle.vidi_lines.specs.Lines.{bad_from, file_lines}
use Rattle.vidi_lines.proofs.Parts.{line_refused, line_read, lines_read, is_some, is_none, fewer, counted}
use Rattle.vidi_lines.proofs.lines.lines_of.Goals as goal

pub returns-in_err-line-clause-lines : goal.returns-in_err-line-clause-lines
returns-in_err-line-clause-lines c =
    let p = err_from_is_err_and c.from_residual.result c.from_residual.ensures.1 in
    rw (p.1, p.2) (line_refused c.args.bytes.now c.loop-rest.rest.now _ c.line_len-len.result c.in_err-line.field-0.0
    (c.loop-rest.invariant.bad ∙ ap (λ k. bad_from (k + 1) (file_lines c.loop-rest.rest.now)) (sym c.len.ensures))
    (is_some c.loop-rest.rest.now (sym c.is_empty.ensures ∙ c.loop-rest-test.true)) c.line_len-len.ensures.value c.in_err-line.ensures)

pub loop-rest-preserved : goal.loop-rest-preserved
loop-rest-preserved c =
    let some = is_some c.loop-rest.rest.now (sym c.is_empty.ensures ∙ c.loop-rest-test.true) in
    let so_far = c.loop-rest.invariant.bad ∙ ap (λ k. bad_from (k + 1) (file_lines c.loop-rest.rest.now)) (sym c.len.ensures) in
    let read = line_read c.args.bytes.now c.loop-rest.rest.now _ c.line_len-len.result c.in_ok-line.line c.loop-rest.lines c.push.new.self
    c.loop-rest.invariant.words so_far some c.line_len-len.ensures.value c.in_ok-line.ensures c.in_ok-push.ensures.ok in
    let count = counted c.loop-rest.lines c.push.new.self c.in_ok-line.line c.len.result c.len.ensures c.in_ok-push.ensures.ok in
    rw c.behind-rest.ensures record {
      words = read.0;
      bad = read.1 ∙ ap (λ k. bad_from k (file_lines (drop (c.line_len-len.result + 1) c.loop-rest.rest.now))) count;
      few = fewer c.loop-rest.rest.now c.line_len-len.result c.loop-rest.lines c.push.new.self c.in_ok-line.line (length c.args.bytes.now)
          some c.in_ok-push.ensures.ok c.loop-rest.invariant.few;
    }

pub returns-clause-lines : goal.returns-clause-lines
returns-clause-lines c = lines_read c.args.bytes.now c.loop-rest.rest.now _ c.loop-rest.lines c.loop-rest.invariant.words
    c.loop-rest.invariant.bad
    (is_none c.loop-rest.rest.now (sym c.is_empty.ensures ∙ c.loop-rest-test.false))
