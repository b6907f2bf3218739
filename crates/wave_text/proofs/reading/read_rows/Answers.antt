use Rattle.std.proofs.Common.{length, sym, ap, ◌∙◌}
use Rattle.std.proofs.lemmas.List.{length-replicate}
use Rattle.std.proofs.lemmas.Result.{err_from_is_err_and}
use Rattle.vidi_lines.specs.Lines.{file_lines}
use Rattle.vidi_lines.proofs.Parts.{is_some, is_none}
use Rattle.wave_text.specs.Steps.{rows_of}
use Rattle.wave_text.proofs.ReadLines.{rows-first, rows-line, rows-end, rows-refused}
use Rattle.wave_text.proofs.reading.read_rows.Goals as goal

pub lines-init : goal.lines-init
lines-init c = record {
  long = ap length c.in_ok-now.ensures ∙ length-replicate c.args.nets 0;
  rows = rows-first c.args.nets c.args.text.now c.in_ok-now.now c.cut_line.result.1.now c.new-rows.result c.new-rows.ensures c.in_ok-now.ensures
      c.cut_line.ensures.behind;
}

pub lines-preserved : goal.lines-preserved
lines-preserved c =
    let some = is_some c.lines.rest.now (sym c.is_empty.ensures ∙ c.lines-test.true) in
    let behind = c.cut_line-in-lines.result.1.now in
    record {
      long = c.read_line.ensures.long ∙ c.lines.invariant.long;
      rows = sym (c.in_ok-read_line.ensures.line (file_lines behind))
          ∙ rows-line c.lines.rows c.lines.now c.lines.rest.now c.cut_line-in-lines.result.0.now behind (rows_of c.args.nets c.args.text.now) some
          c.cut_line-in-lines.ensures.line c.cut_line-in-lines.ensures.behind c.lines.invariant.rows;
    }

pub returns-in_err-read_line : goal.returns-in_err-read_line
returns-in_err-read_line c =
    let some = is_some c.lines.rest.now (sym c.is_empty.ensures ∙ c.lines-test.true) in
    let behind = c.cut_line-in-lines.result.1.now in
    let p = err_from_is_err_and c.from_residual-in_err-read_line.result c.from_residual-in_err-read_line.ensures.1 in
    rw (p.1, p.2) (rows-refused c.args.nets c.args.text.now c.lines.now c.cut_line-in-lines.result.0.now c.read_line.new.now c.lines.rows
    c.read_line.new.rows (file_lines behind) c.in_err-read_line.field-0.0 c.in_err-read_line.ensures.line c.lines.invariant.long
    (rows-line c.lines.rows c.lines.now c.lines.rest.now c.cut_line-in-lines.result.0.now behind (rows_of c.args.nets c.args.text.now) some
    c.cut_line-in-lines.ensures.line c.cut_line-in-lines.ensures.behind c.lines.invariant.rows))

pub returns : goal.returns
returns c = rows-end c.lines.rows c.lines.now c.lines.rest.now (rows_of c.args.nets c.args.text.now)
    (is_none c.lines.rest.now (sym c.is_empty.ensures ∙ c.lines-test.false)) c.lines.invariant.rows
