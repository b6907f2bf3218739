use Rattle.std.proofs.Common.{sym, ◌∙◌, length}
use Rattle.vidi_lines.proofs.Parts.{each_read, all_read, is_some, is_none, fewer}
use Rattle.vidi_lines.proofs.lines.each_line.Goals as goal

pub loop-rest-preserved : goal.loop-rest-preserved
loop-rest-preserved c =
    let some = is_some c.loop-rest.rest.now (sym c.is_empty.ensures ∙ c.loop-rest-test.true) in
    rw c.behind-rest.ensures record {
      words = each_read c.args.bytes.now c.loop-rest.rest.now c.line_len-end.result c.in_ok-line.line c.loop-rest.lines c.push.new.self
          c.loop-rest.invariant.words some c.line_len-end.ensures.value c.in_ok-line.ensures c.in_ok-push.ensures.ok;
      few = fewer c.loop-rest.rest.now c.line_len-end.result c.loop-rest.lines c.push.new.self c.in_ok-line.line (length c.args.bytes.now)
          some c.in_ok-push.ensures.ok c.loop-rest.invariant.few;
    }

pub returns-clause-lines : goal.returns-clause-lines
returns-clause-lines c = all_read c.args.bytes.now c.loop-rest.rest.now c.loop-rest.lines c.loop-rest.invariant.words
    (is_none c.loop-rest.rest.now (sym c.is_empty.ensures ∙ c.loop-rest-test.false))
